-- The ranges so far.
use Rattle.std.proofs.Common.{◌≡◌, map, take}
use Rattle.tl_map.specs.Map.{lists_in}
use Rattle.check_description.specs.Port.{port_view}
use Rattle.check_description.specs.Description.{ranges_of}
use Rattle.check_description.proofs.description.map_of.Given as goal

abbrev pub invariant-loop-port : goal.invariant-loop-port
invariant-loop-port l =
    lists_in l.ranges.items ≡ ranges_of (map port_view (take l.port-index l.ports))
