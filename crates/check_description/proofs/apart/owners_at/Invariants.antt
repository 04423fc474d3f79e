-- The owners so far.
use Rattle.std.proofs.Common.{◌≡◌, take}
use Rattle.check_description.specs.Apart.{owners_at}
use Rattle.check_description.proofs.apart.owners_at.Given as goal

abbrev pub invariant-loop-one : goal.invariant-loop-one
invariant-loop-one l = l.owners.items ≡ owners_at l.counts (take l.one-index l.placed)
