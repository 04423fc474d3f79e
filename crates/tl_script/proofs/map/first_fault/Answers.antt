use Rattle.std.proofs.Common.{◌≤◌, length, arith}
use Rattle.tl_script.specs.declared.map.TheConstants.{MAX_RANGES}
use Rattle.tl_script.proofs.MapFaults.{all_tried, lawful_ranges}
use Rattle.tl_script.proofs.map.first_fault.Goals as goal

pub returns-clause-lawful : goal.returns-clause-lawful
returns-clause-lawful c =
    let few : length c.args.ranges.now ≤ MAX_RANGES = grind (arith, c.if-are_too_many.false, c.are_too_many.ensures) in
    lawful_ranges c.args.ranges.now few
    (all_tried c.args.ranges.now c.loop-place.place c.loop-place-test.false few c.loop-place.invariant)
