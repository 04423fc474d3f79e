use Rattle.std.proofs.Common.{arith}
use Rattle.check_cells.proofs.Lanes.{cell_in_room}
use Rattle.check_cells.proofs.cells.Cells.set_cell.Goals as goal

pub returns : goal.returns
returns c =
    let inside = c.self.inside in
    cell_in_room inside.words inside.masks c.args.cell c.args.known c.args.width c.requires
    (omega (arith, c.self.invariant.words_counted)) (omega (arith, c.self.invariant.masks_counted))
