-- The ports of lawful ranges have ranges of which a map can be made.
use Rattle.std.proofs.Common.{◌≤◌, length, arith}
use Rattle.tl_map.specs.declared.limits.TheConstants.{MAX_JUDGED_PORTS}
use Rattle.tl_map.proofs.OneEach.{are_ranges}
use Rattle.tl_script.proofs.MapFaults.{each_lawful}
use Rattle.tl_script.proofs.map.keep.Goals as goal

pub new-requires : goal.new-requires
new-requires c =
    let ranges = c.args.ranges.now in
    let in_limit = c.requires.in_limit in
    let few : length ranges ≤ MAX_JUDGED_PORTS = omega (arith, in_limit) in
    rw (c.deref.ensures.value, c.in-Ok.ensures) (are_ranges ranges few (each_lawful ranges c.requires))
