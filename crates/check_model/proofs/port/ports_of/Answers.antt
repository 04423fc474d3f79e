-- The image of each port fits.
use Rattle.check_description.specs.Port.{port_view}
use Rattle.check_model.proofs.Reading.{port_at}
use Rattle.check_model.proofs.port.ports_of.Goals as goal

pub port_of-requires : goal.port_of-requires
port_of-requires c =
    let port = c.index-ports-number.result in
    let at = port_at c.args.ports.now c.loop-number.number port c.loop-number-test.true c.index-ports-number.is in
    c.requires c.loop-number.number (port_view port) at
