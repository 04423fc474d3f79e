use Rattle.std.proofs.Common.{◌*◌, arith}
use Rattle.tl_ops.proofs.Masks.{masked}
use Rattle.tl_ops.proofs.cell.with_cell.Goals as goal

pub returns : goal.returns
returns c =
    rw c.cell_mask.ensures (masked c.args.word (8 * c.args.width) (8 * c.args.lane) c.args.cell c.ranges.word.fits
    (omega arith) c.requires.fits)
