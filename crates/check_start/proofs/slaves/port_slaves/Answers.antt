-- The slave of one port more is pushed.
use Rattle.std.proofs.Common.{rules, ◌≡◌, ◌∙◌, ◌++◌, ◌∷◌, [], map, Ok}
use Rattle.check_description.specs.Port.{port_view}
use Rattle.check_description.specs.Slave.{slave_at_reset}
use Rattle.check_start.specs.Slaves.{image_at, order_of}
use Rattle.check_start.proofs.Counted.{one_more}
use Rattle.check_start.proofs.slaves.port_slaves.Goals as goal

pub loop-number-preserved : goal.loop-number-preserved
loop-number-preserved c =
    let images = map (λ image. image.items) c.args.images.now in
    let slave = c.in_ok-port_slave.field-0 in
    let pushed : c.push.new.self.items ≡ c.loop-number.slaves.items ++ slave ∷ [] = search rules in
    let its : slave_at_reset c.args.corrupt c.loop-number.number (port_view c.index-ports-number.result)
    (image_at images c.loop-number.number) (order_of c.args.side c.args.orders (port_view c.index-ports-number.result))
    ≡ Ok slave =
    c.in_ok-port_slave.ensures in
    rw pushed (one_more c.args.corrupt c.args.side c.args.orders images c.loop-number.slaves.items c.args.ports.now c.loop-number.number
    c.index-ports-number.result slave c.loop-number-test.true (rw (← c.index-ports-number.is) its)
    ∙ c.loop-number.invariant)
