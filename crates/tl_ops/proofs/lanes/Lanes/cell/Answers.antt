use Rattle.std.proofs.Common.{◌≡◌, ◌<◌, ◌/◌, length, get_or, ap, arith}
use Rattle.std.proofs.lemmas.List.{get_or_read}
use Rattle.tl_ops.proofs.LaneLists.{length-lanes_of, cell_read}
use Rattle.tl_ops.proofs.lanes.Lanes.cell.Goals as goal

pub index-requires : goal.index-requires
index-requires c =
    let words = c.self.inside.words.items in
    omega (arith, length-lanes_of words, ap length c.self.view_is)

pub returns-clause-bytes : goal.returns-clause-bytes
returns-clause-bytes c =
    let words = c.self.inside.words.items in
    let within : c.args.start / 8 < length words = omega (arith, length-lanes_of words, ap length c.self.view_is) in
    let word : c.index.result.now ≡ get_or words (c.args.start / 8) 0 =
    get_or_read words (c.args.start / 8) c.index.result.now within c.index.ensures 0 in
    rw (c.cell_of.ensures.value, word, ← c.self.view_is)
    (cell_read words c.args.start c.args.width within c.requires.in_word)
