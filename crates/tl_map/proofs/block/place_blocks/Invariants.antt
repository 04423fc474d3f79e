-- The blocks of the masters so far.
use Rattle.tl_map.proofs.BlockOwners.{ArePlacedSoFar}
use Rattle.tl_map.proofs.block.place_blocks.Given as goal

abbrev pub invariant-loop-count : goal.invariant-loop-count
invariant-loop-count l = ArePlacedSoFar l.counts l.count-index l.end l.owners.items
