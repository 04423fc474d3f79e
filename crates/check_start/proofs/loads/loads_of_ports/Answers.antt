-- The image of each port fits.
use Rattle.std.proofs.Common.{◌≤◌, length, subst, sym}
use Rattle.check_description.specs.Port.{port_view}
use Rattle.check_description.specs.Ranges.{first_length}
use Rattle.check_start.proofs.Loading.{port_at}
use Rattle.check_start.proofs.loads.loads_of_ports.Goals as goal

pub load_of-requires : goal.load_of-requires
load_of-requires c =
    let port = c.index-ports-number.result in
    let at = port_at c.args.ports.now c.loop-number.number port c.loop-number-test.true c.index-ports-number.is in
    subst (λ bytes. length bytes ≤ first_length port.ranges.items) (sym c.image_at.ensures)
    (c.requires c.loop-number.number (port_view port) at)
