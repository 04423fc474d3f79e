use Rattle.std.proofs.Common.{◌∙◌, ◌*◌, ◌≤◌, length, arith}
use Rattle.check_cells.proofs.Lanes.{filled_room}
use Rattle.check_cells.proofs.cells.Cells.fill.Goals as goal

pub returns : goal.returns
returns c =
    let inside = c.loop-word.self-inside in
    let n = c.loop-word.word in
    let enough : c.args.width ≤ 8 * n = omega (arith, c.div_ceil-word-end.ensures, c.loop-word-test.false) in
    let within : n ≤ length inside.words =
    omega (arith, c.div_ceil-word-end.ensures, c.loop-word.auto.word-end, c.loop-word.invariant.0, c.requires) in
    filled_room inside.words inside.masks c.args.known c.args.width n enough within c.loop-word.invariant.2
    (λ i below. c.loop-word.invariant.3 i below ∙ c.mask_of-mask.ensures)
