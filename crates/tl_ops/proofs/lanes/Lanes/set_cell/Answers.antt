use Rattle.std.proofs.Common.{◌≡◌, ◌∙◌, ◌<◌, ◌/◌, ◌%◌, length, get_or, set, ap, arith}
use Rattle.std.proofs.lemmas.List.{get_or_read}
use Rattle.tl_ops.specs.Cell.{lanes_of, with_cell}
use Rattle.tl_ops.specs.Store.{with_window}
use Rattle.tl_ops.specs.Number.{low_bytes}
use Rattle.tl_ops.proofs.Bytes.{length-low_bytes}
use Rattle.tl_ops.proofs.LaneLists.{length-lanes_of, cell_written, length-with_window}
use Rattle.tl_ops.proofs.lanes.Lanes.set_cell.Goals as goal

pub index-word-requires : goal.index-word-requires
index-word-requires c =
    let words = c.self.inside.words.items in
    omega (arith, length-lanes_of words, ap length c.self.view_is)

pub index_mut-requires : goal.index_mut-requires
index_mut-requires c =
    let words = c.self.inside.words.items in
    omega (arith, length-lanes_of words, ap length c.self.view_is)

pub returns-clause-after : goal.returns-clause-after
returns-clause-after c =
    let words = c.self.inside.words.items in
    let place = c.args.start / 8 in
    let lane = c.args.start % 8 in
    let width = c.args.width in
    let cell = c.args.cell in
    let within : place < length words = omega (arith, length-lanes_of words, ap length c.self.view_is) in
    let word : c.index-word.result.now ≡ get_or words place 0 =
    get_or_read words place c.index-word.result.now within c.index-word.ensures 0 in
    let made : c.with_cell.result ≡ with_cell (get_or words place 0) lane width cell =
    c.with_cell.ensures ∙ ap (λ w. with_cell w lane width cell) word in
    let written = cell_written words c.args.start width cell within c.requires.in_word c.requires.fits in
    ap (λ w. lanes_of (set words place w)) made ∙ written
    ∙ ap (λ lanes. with_window lanes c.args.start (low_bytes width cell)) c.self.view_is

pub returns-clause-len : goal.returns-clause-len
returns-clause-len c =
    let now = c.args.self.now in
    let new = low_bytes c.args.width c.args.cell in
    let wide : length new ≡ c.args.width = length-low_bytes c.args.width c.args.cell in
    ap length (returns-clause-after c) ∙ length-with_window now c.args.start new
    (omega (arith, wide, c.requires.inside))
