-- No port so far has the name.
use Rattle.std.proofs.Common.{◌≡◌, drop, map}
use Rattle.check_description.specs.Port.{names_of_ports, port_view}
use Rattle.check_description.specs.Called.{called_from}
use Rattle.check_description.proofs.reach.port_called.Given as goal

abbrev pub invariant-loop-number : goal.invariant-loop-number
invariant-loop-number l =
    called_from l.number l.name (names_of_ports (map port_view (drop l.number l.ports)))
    ≡ called_from 0 l.name (names_of_ports (map port_view l.ports))
