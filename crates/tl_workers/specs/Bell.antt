-- The room of bells. This project's own.
use Rattle.std.specs.Prelude.{ℕ, ◌≤◌}
use Rattle.crossbeam_channel.specs.Ends.{receives_on, ruled_capacity}
use Rattle.tl_workers.specs.declared.bell.Listener.{Listener}

-- how many rings that nobody has heard the bell holds
abbrev pub room_of : Listener → ℕ
room_of l = ruled_capacity (receives_on l.receiver)

-- the bell holds so many rings, and one at least
pub record HasRoom (rings : ℕ) (l : Listener) : Type 0 where
  pub all : rings ≤ room_of l
  pub one : 1 ≤ room_of l
