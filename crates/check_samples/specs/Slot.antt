-- A value that is kept. This project's own.
use Rattle.std.specs.Prelude.{ℕ, ◌==◌, List, if◌then◌else◌}
use Rattle.check_samples.specs.declared.slot.Slot.{Slot}

-- the digits that it had before the last of so many times
abbrev pub before_of : ℕ → Slot → List ℕ
before_of times slot = if slot.since == times then slot.earlier.items else slot.digits.items
