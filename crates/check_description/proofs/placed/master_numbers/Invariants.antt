-- The numbers so far.
use Rattle.std.proofs.Common.{◌≡◌, take}
use Rattle.check_description.specs.Placed.{master_numbers}
use Rattle.check_description.proofs.placed.master_numbers.Given as goal

abbrev pub invariant-loop-one : goal.invariant-loop-one
invariant-loop-one l = l.numbers.items ≡ master_numbers (take l.one-index l.placed)
