use Rattle.std.proofs.Common.{◌≡◌, ◌∙◌, ℕ, ◌+◌, ◌*◌, ◌/◌, ◌≤◌, List, length, take, drop, sym, ap, arith}
use Rattle.std.proofs.lemmas.List.{length-take-le, length-drop}
use Rattle.tl_types.specs.Bytes.{bit_in, given_in, bytes_of_words}
use Rattle.tl_types.proofs.Words.{length-bytes_of_words}
use Rattle.tl_types.proofs.Given.{length-given_in}
use Rattle.tl_ops.specs.Cell.{lanes_of}
use Rattle.check_memory.proofs.PageCells.{words_shown}
use Rattle.check_memory.proofs.sheet.Sheet.read_words.Goals as goal

pub words-requires-clause-inside : goal.words-requires-clause-inside
words-requires-clause-inside c =
    omega (
      arith,
      c.requires.inside,
      c.requires.words,
      ap length c.self.view_is,
      length-given_in (bit_in c.self.inside.masks) c.self.inside.lanes,
    )

pub part-masks-requires : goal.part-masks-requires
part-masks-requires c = omega (
  arith,
  c.requires.inside,
  c.requires.words,
  c.requires.whole,
  ap length c.self.view_is,
  length-given_in (bit_in c.self.inside.masks) c.self.inside.lanes,
  c.self.invariant.lanes_counted,
  c.self.invariant.masks_counted,
)

words_long : (lanes words : List ℕ) (start count : ℕ) → start + 8 * count ≤ length lanes
    → bytes_of_words words ≡ take (8 * count) (drop start lanes) → length words ≡ count
words_long lanes words start count inside is =
    omega (
      arith,
      length-bytes_of_words words,
      ap length is,
      length-take-le (8 * count) (drop start lanes) (omega (arith, inside, length-drop start lanes)),
    )

pub set_words-requires-clause-paired : goal.set_words-requires-clause-paired
set_words-requires-clause-paired c =
    let first = c.args.start / 8 in
    let count = c.args.width / 8 in
    let masks = c.self.inside.masks in
    let inside : c.args.start + 8 * count ≤ length c.self.inside.lanes =
    omega (
      arith,
      c.requires.inside,
      c.requires.words,
      ap length c.self.view_is,
      length-given_in (bit_in masks) c.self.inside.lanes,
    ) in
    let some : first + count ≤ length masks =
    omega (arith, inside, c.requires.whole, c.self.invariant.lanes_counted, c.self.invariant.masks_counted) in
    ap length c.part-masks.ensures
    ∙ length-take-le count (drop first masks) (omega (arith, some, length-drop first masks))
    ∙ sym (words_long c.self.inside.lanes c.words.result.now c.args.start count inside c.words.ensures)

pub set_words-requires-clause-room : goal.set_words-requires-clause-room
set_words-requires-clause-room c =
    let count = c.args.width / 8 in
    let inside : c.args.start + 8 * count ≤ length c.self.inside.lanes =
    omega (
      arith,
      c.requires.inside,
      c.requires.words,
      ap length c.self.view_is,
      length-given_in (bit_in c.self.inside.masks) c.self.inside.lanes,
    ) in
    omega (
      arith,
      words_long c.self.inside.lanes c.words.result.now c.args.start count inside c.words.ensures,
      c.requires.limit,
    )

pub returns : goal.returns
returns c =
    let first = c.args.start / 8 in
    let count = c.args.width / 8 in
    let masks = c.self.inside.masks in
    let inside : c.args.start + 8 * count ≤ length c.self.inside.lanes =
    omega (
      arith,
      c.requires.inside,
      c.requires.words,
      ap length c.self.view_is,
      length-given_in (bit_in masks) c.self.inside.lanes,
    ) in
    let whole : 8 * count ≡ c.args.width = omega (arith, c.requires.words) in
    c.set_words.ensures
    ∙ ap (λ ms. given_in (bit_in ms) (lanes_of c.words.result.now)) c.part-masks.ensures
    ∙ words_shown masks c.self.inside.lanes c.words.result.now c.args.start first count
    (omega (arith, c.requires.whole)) inside c.words.ensures
    ∙ ap (λ n. take n (drop c.args.start (given_in (bit_in masks) c.self.inside.lanes))) whole
    ∙ ap (λ cells. take c.args.width (drop c.args.start cells)) c.self.view_is
