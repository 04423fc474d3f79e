-- The bound of the owners so far.
use Rattle.tl_map.proofs.Kept.{IsBoundUpTo}
use Rattle.tl_map.proofs.owners.bound_of.Given as goal

abbrev pub invariant-loop-owner : goal.invariant-loop-owner
invariant-loop-owner l = IsBoundUpTo l.owners l.owner-index l.bound
