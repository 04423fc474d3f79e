use Rattle.std.proofs.Common.{◌∙◌, take, drop, bit_and, ap, arith}
use Rattle.std.specs.Int.{bit_at}
use Rattle.tl_types.specs.Bytes.{given_in}
use Rattle.tl_types.proofs.Given.{given_in-same}
use Rattle.tl_ops.specs.Number.{low_bytes}
use Rattle.tl_ops.specs.Cell.{cell_of}
use Rattle.tl_ops.proofs.Bytes.{length-low_bytes}
use Rattle.check_cells.proofs.Seen.{first_mask, part_cut}
use Rattle.check_cells.proofs.cells.Cells.set_part.Goals as goal

pub returns : goal.returns
returns c =
    let known = c.args.known in
    let lane = c.args.lane in
    let width = c.args.width in
    let cell = cell_of c.word_of.result lane width in
    c.set_cell.ensures
    ∙ ap (λ x. given_in (bit_at (bit_and known 255)) (low_bytes width x)) c.cell_of-cell.ensures.value
    ∙ given_in-same (bit_at (bit_and known 255)) (bit_at known) (low_bytes width cell)
    (λ k below. first_mask known k (omega (arith, below, length-low_bytes width cell, c.requires.in_word)))
    ∙ ap (given_in (bit_at known)) (part_cut c.word_of.result lane width c.requires.some c.requires.in_word
    ∙ ap (λ bytes. take width (drop lane bytes)) c.word_of.ensures)
