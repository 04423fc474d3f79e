-- The names so far are those of the ports so far.
use Rattle.std.proofs.Common.{◌≡◌, map, take}
use Rattle.check_description.specs.Port.{port_view}
use Rattle.check_lines.specs.Names.{texts_of}
use Rattle.check_start.proofs.start.port_names.Given as goal

abbrev pub invariant-loop-port : goal.invariant-loop-port
invariant-loop-port l = texts_of l.names.items ≡ map (λ port. port.name) (map port_view (take l.port-index l.ports))
