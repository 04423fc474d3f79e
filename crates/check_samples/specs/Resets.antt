-- Resets of the whole system, which have rows of their own. This project's own.
use Rattle.std.specs.Prelude.{ℕ, ◌&&◌, Bool, false, not, List, [], ◌∷◌, ◌++◌, codes, Option, None, Some, if◌then◌else◌}
use Rattle.std.specs.Fmt.{decimal}
use Rattle.check_samples.specs.Domain.{Watched}
use Rattle.check_samples.specs.EdgeFault.{some_crossed}
use Rattle.check_samples.specs.Rows.{Rows, is_active, no_rows, ticks}
use Rattle.check_samples.specs.declared.reset.SystemReset.{SystemReset}
use Rattle.check_samples.specs.declared.reset.WatchedReset.{WatchedReset}

-- before the first time there was no edge, and so none at which the reset was active
abbrev pub unwatched_reset : SystemReset → WatchedReset
unwatched_reset system = record { system = system; was_active = false }

-- the reset is active before the present time
abbrev pub is_system_active : List (List ℕ) → SystemReset → Bool
is_system_active before system = is_active before (Some system.reset)

-- what is known after the present time: if the clock ticks at it, whether the reset was active then
abbrev pub watched_reset : List (List ℕ) → List (List ℕ) → WatchedReset → WatchedReset
watched_reset before now one = record {
  system = one.system;
  was_active = if ticks before now one.system.clock then is_system_active before one.system else one.was_active;
}

-- the reset begins: it is active at an edge of the clock, and was not at the edge before
abbrev pub begins : List (List ℕ) → List (List ℕ) → WatchedReset → Bool
begins before now one =
    ticks before now one.system.clock && (is_system_active before one.system && not one.was_active)

-- the present time has a reset's row: resets are told, one begins, and a beat has crossed at an earlier time. Before the first
-- beat a reset changes nothing
abbrev pub is_reset_due : List (List ℕ) → List (List ℕ) → List Watched → Option WatchedReset → Bool
is_reset_due before now watched None = false
is_reset_due before now watched (Some one) = begins before now one && some_crossed watched

-- the row: its time and the word `reset`. In the other columns nothing stands
abbrev pub reset_line : ℕ → List ℕ
reset_line time = decimal time ++ codes ",reset,,,,,,,,,,"

-- the row of a reset of the whole system: its line with its end.
abbrev pub reset_row : ℕ → List ℕ
reset_row time = reset_line time ++ (10 ∷ [])

-- the row of a reset at a time, if one is due.
abbrev pub reset_rows : ℕ → Bool → Rows
reset_rows time is_due = if is_due then record { text = reset_row time; fault = None } else no_rows
