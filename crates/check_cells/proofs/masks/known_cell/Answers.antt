use Rattle.check_cells.proofs.Bits.{cell_bits}
use Rattle.check_cells.proofs.masks.known_cell.Goals as goal

pub returns-clause-bits : goal.returns-clause-bits
returns-clause-bits c = λ k below. rw c.ones.ensures.value
    (cell_bits c.args.masks.now c.args.start c.args.width k c.requires.in_word below)
