-- The numbers so far, and those of the rest, are the numbers of all.
use Rattle.std.proofs.Common.{◌≡◌, drop, map}
use Rattle.tl_text.specs.Reading.{each, with_front}
use Rattle.check_keys.specs.Value.{integer_or_text_view}
use Rattle.check_description.specs.Port.{names_of_ports, port_view}
use Rattle.check_description.specs.Reach.{port_of_element}
use Rattle.check_description.proofs.reach.read_each_number.Given as goal

abbrev pub invariant-loop-element : goal.invariant-loop-element
invariant-loop-element l =
    with_front l.numbers.items
    (each (port_of_element (names_of_ports (map port_view l.ports))) (map integer_or_text_view (drop l.element-index l.elements)))
    ≡ each (port_of_element (names_of_ports (map port_view l.ports))) (map integer_or_text_view l.elements)
