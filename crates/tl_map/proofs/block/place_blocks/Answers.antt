use Rattle.std.proofs.Common.{get_or}
use Rattle.std.proofs.lemmas.List.{get_or_default}
use Rattle.tl_map.proofs.BlockOwners.{placed_more}
use Rattle.tl_map.proofs.block.place_blocks.Goals as goal

pub loop-count-preserved : goal.loop-count-preserved
loop-count-preserved c =
    let counts = c.args.counts.now in
    let place = c.loop-count.count-index in
    let count = get_or counts place 0 in
    rw c.in_ok-push.ensures.items
    (placed_more counts place c.loop-count.end count c.block_size-size.result c.block_start-start.result c.loop-count.owners.items c.loop-count-test.true
    (get_or_default counts place 0 count c.loop-count-test.true)
    c.block_size-size.ensures.in_limit c.loop-count.invariant c.block_size-size.ensures.size c.block_start-start.ensures.start)
