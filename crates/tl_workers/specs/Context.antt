-- What the threads of a run share. This project's own.
use Rattle.std.specs.Prelude.{◌≡◌, ℕ, ◌+◌, ◌≤◌, length}
use Rattle.tl_arena.specs.Views.{ArenaId}
use Rattle.tl_script.specs.System.{System}

-- the arena is the named one, and has all ports of the system's map; there are so many ports behind locks; and each
-- master of the system has operations
pub record AreShared (named : ArenaId) (s : System) (arena : ArenaId) (ports : ℕ) : Type 0 where
  pub arena_is : arena ≡ named
  pub reached : length s.ranges + 1 ≤ arena.about.ports
  pub all_ports : ports ≡ length s.ranges + 1
  pub all_masters : length s.jobs ≡ length s.owners
