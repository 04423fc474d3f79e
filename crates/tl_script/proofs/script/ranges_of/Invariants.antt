-- The ranges so far.
use Rattle.std.proofs.Common.{◌≡◌, map, take}
use Rattle.tl_script.specs.System.{range_of, store_of}
use Rattle.tl_script.proofs.script.ranges_of.Given as goal

abbrev pub invariant-loop-device : goal.invariant-loop-device
invariant-loop-device l = l.ranges.items ≡ map range_of (map store_of (take l.device-index l.devices))
