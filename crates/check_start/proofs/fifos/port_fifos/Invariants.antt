-- The flags so far are those of the ports so far.
use Rattle.std.proofs.Common.{◌≡◌, map, take}
use Rattle.check_description.specs.Port.{port_fifos, port_view}
use Rattle.check_start.proofs.fifos.port_fifos.Given as goal

abbrev pub invariant-loop-port : goal.invariant-loop-port
invariant-loop-port l = l.fifos.items ≡ port_fifos (map port_view (take l.port-index l.ports))
