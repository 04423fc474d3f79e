use Rattle.std.proofs.Common.{◌∙◌, ◌+◌, ◌/◌, ◌<◌, ◌≤◌, length, sym, ap, arith}
use Rattle.tl_ops.specs.Number.{low_bytes}
use Rattle.check_cells.specs.Known.{known}
use Rattle.check_cells.proofs.Lanes.{length-room}
use Rattle.check_cells.proofs.KeptParts.{part_known}
use Rattle.check_cells.proofs.cells.Cells.known_part.Goals as goal

pub returns-then-mask-ones-clause-value : goal.returns-then-mask-ones-clause-value
returns-then-mask-ones-clause-value c =
    let inside = c.self.inside in
    let start = c.args.start in
    let width = c.args.width in
    let long = length-room inside.words inside.masks inside.len c.self.invariant.words_counted
    c.self.invariant.in_limit in
    let room : start + width ≤ inside.len = omega (arith, long, c.requires.inside, ap length c.self.view_is) in
    let within : start / 8 < length inside.words =
    omega (arith, room, c.requires.some, c.self.invariant.words_counted, c.self.invariant.in_limit) in
    part_known inside.words inside.masks inside.len start width c.known_cell-mask.result c.args.self.now c.self.view_is
    within c.requires.in_word room (c.if-mask-ones.true ∙ c.ones.ensures.value) c.known_cell-mask.ensures.bits
    ∙ ap (λ cell. known (low_bytes width cell)) (sym c.cell_of.ensures.value)
