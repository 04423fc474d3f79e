-- The banks so far are those of the devices so far.
use Rattle.std.proofs.Common.{◌≡◌, map, take}
use Rattle.tl_script.specs.System.{store_of}
use Rattle.tl_script.proofs.system.banks_of.Given as goal

abbrev pub invariant-loop-device : goal.invariant-loop-device
invariant-loop-device l = l.banks.items ≡ map store_of (take l.device-index l.devices)
