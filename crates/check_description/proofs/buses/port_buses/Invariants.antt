-- The buses so far are those of the ports so far.
use Rattle.std.proofs.Common.{◌≡◌, map, take}
use Rattle.check_description.specs.Port.{port_view}
use Rattle.check_description.specs.Buses.{port_buses}
use Rattle.check_description.proofs.buses.port_buses.Given as goal

abbrev pub invariant-loop-port : goal.invariant-loop-port
invariant-loop-port l = l.buses.items ≡ port_buses (map port_view (take l.port-index l.ports))
