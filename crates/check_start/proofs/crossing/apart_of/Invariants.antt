-- The flags so far are those of the ports so far.
use Rattle.std.proofs.Common.{◌≡◌, map, take}
use Rattle.check_description.specs.Port.{apart_of, port_view}
use Rattle.check_start.proofs.crossing.apart_of.Given as goal

abbrev pub invariant-loop-port : goal.invariant-loop-port
invariant-loop-port l = l.apart.items ≡ apart_of (map port_view (take l.port-index l.ports))
