use Rattle.check_cells.proofs.Lanes.{words_in_room}
use Rattle.check_cells.proofs.cells.Cells.set_words.Goals as goal

pub returns : goal.returns
returns c = rw (c.copy_from_slice.ensures.after, c.write_over.ensures)
    (words_in_room c.args.words.now _ c.args.masks.now _ c.requires.paired)
