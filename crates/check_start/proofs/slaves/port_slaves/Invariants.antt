-- The slaves so far, and those of the ports that are left, are those of all ports.
use Rattle.std.proofs.Common.{◌≡◌, drop, map}
use Rattle.tl_text.specs.Reading.{with_front}
use Rattle.check_description.specs.Port.{port_view}
use Rattle.check_start.specs.Slaves.{slaves_from}
use Rattle.check_start.proofs.slaves.port_slaves.Given as goal

abbrev pub invariant-loop-number : goal.invariant-loop-number
invariant-loop-number l =
    with_front l.slaves.items
    (slaves_from l.corrupt l.side l.orders (map (λ image. image.items) l.images) l.number (map port_view (drop l.number l.ports)))
    ≡ slaves_from l.corrupt l.side l.orders (map (λ image. image.items) l.images) 0 (map port_view l.ports)
