-- The lists so far, and those of the rest of the ports, are the lists of all.
use Rattle.std.proofs.Common.{◌≡◌, drop, map}
use Rattle.tl_text.specs.Reading.{each, with_front}
use Rattle.check_description.specs.Master.{master_view}
use Rattle.check_description.specs.Placed.{lists_view, names_of_masters, placed_at}
use Rattle.check_description.specs.Port.{port_view}
use Rattle.check_description.proofs.placed.place_masters.Given as goal

abbrev pub invariant-loop-port : goal.invariant-loop-port
invariant-loop-port l =
    with_front (lists_view l.lists)
    (each (placed_at (names_of_masters (map master_view l.masters))) (map port_view (drop l.port-index l.ports)))
    ≡ each (placed_at (names_of_masters (map master_view l.masters))) (map port_view l.ports)
