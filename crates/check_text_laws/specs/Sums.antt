-- What the lines of a text of what was covered add up to, and which lines it has. This project's own.
use Rattle.std.specs.Prelude.{◌≡◌, ◌≢◌, ℕ, ◌+◌, Bool, true, false, if◌then◌else◌, List, [], ◌∷◌}
use Rattle.std.specs.List.{AllByRecursion}
use Rattle.check_flight.specs.declared.order.Order.TheVariants.{Accept}
use Rattle.check_watch.specs.Plan.{Plan}
use Rattle.check_watch_laws.specs.Memories.{order_at}
use Rattle.check_bins.specs.declared.bin.Bin.{Bin}
use Rattle.check_bins.specs.declared.bin.Bin.TheVariants.{Asked, Answered, Contested}

-- the bin is one of requests
abbrev pub is_asked : Bin → Bool
is_asked (Asked pair operation is_unaligned) = true
is_asked other = false

-- the bin is one of replies
abbrev pub is_answered : Bin → Bool
is_answered (Answered pair operation is_denied) = true
is_answered other = false

-- the counts of all bins of a kind, added up
abbrev pub sum_of : (Bin → Bool) → List (Bin × ℕ) → ℕ
sum_of is_one [] = 0
sum_of is_one (entry ∷ entries) = (if is_one entry.0 then entry.1 else 0) + sum_of is_one entries

-- no line tells of a contested request at the port
abbrev pub TellsNoContest : ℕ → List (Bin × ℕ) → Type 0
TellsNoContest port entries = AllByRecursion (λ (entry : Bin × ℕ). entry.0 ≢ Contested port) entries

-- if two systems say another order of a port, by one its requests take effect as they are accepted, and no line tells of a
-- contested one
abbrev pub DifferUntold : Plan → Plan → List (Bin × ℕ) → Type 0
DifferUntold loose strict entries =
    (port : ℕ) → order_at loose port ≢ order_at strict port
    → (order_at strict port ≡ Accept) × TellsNoContest port entries
