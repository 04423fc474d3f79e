-- The names so far, and those of the rest, are the names of all.
use Rattle.std.proofs.Common.{◌≡◌, ◌++◌, drop, map}
use Rattle.std.specs.List.{filter_map}
use Rattle.check_description.specs.Port.{port_view}
use Rattle.check_description.proofs.names.names_of_ports.Given as goal

abbrev pub invariant-loop-port : goal.invariant-loop-port
invariant-loop-port l =
    map (λ name. name.now) l.names.items
    ++ filter_map (λ port. port.name) (map port_view (drop l.port-index l.ports))
    ≡ filter_map (λ port. port.name) (map port_view l.ports)
