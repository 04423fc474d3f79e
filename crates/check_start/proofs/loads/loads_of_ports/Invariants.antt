-- What is loaded so far, and what is into the ports that are left, is that of all ports.
use Rattle.std.proofs.Common.{◌≡◌, ◌++◌, drop, map}
use Rattle.check_description.specs.Port.{port_view}
use Rattle.check_start.specs.Loads.{loads_from}
use Rattle.check_start.proofs.loads.loads_of_ports.Given as goal

abbrev pub invariant-loop-number : goal.invariant-loop-number
invariant-loop-number l =
    l.loaded.items ++ loads_from (map (λ image. image.items) l.images) l.number (map port_view (drop l.number l.ports))
    ≡ loads_from (map (λ image. image.items) l.images) 0 (map port_view l.ports)
