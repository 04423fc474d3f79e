use Rattle.std.proofs.Common.{◌≡◌, ◌∙◌, ◌<◌, ◌≤◌, ◌+◌, ◌*◌, ℕ, List, Option, length, get_or, take, drop, sym, ap, arith}
use Rattle.std.proofs.lemmas.List.{get_or_read}
use Rattle.tl_ops.specs.Cell.{lanes_of, bytes_of_word}
use Rattle.tl_ops.proofs.Parts.{length-word_of}
use Rattle.tl_ops.specs.Number.{low_bytes}
use Rattle.tl_ops.specs.Store.{with_window}
use Rattle.tl_ops.specs.Window.{merged}
use Rattle.tl_ops.proofs.Bytes.{length-low_bytes}
use Rattle.tl_ops.proofs.LaneLists.{length-lanes_of, word_read, word_written, length-with_window}
use Rattle.tl_ops.proofs.lanes.Lanes.put_word.Goals as goal

pub index-word-requires : goal.index-word-requires
index-word-requires c =
    let words = c.self.inside.words.items in
    omega (arith, length-lanes_of words, ap length c.self.view_is)

pub index_mut-requires : goal.index_mut-requires
index_mut-requires c =
    let words = c.self.inside.words.items in
    omega (arith, length-lanes_of words, ap length c.self.view_is)

full : (given : List (Option ℕ)) (k : ℕ) → 8 * k + 8 ≤ length given → length (bytes_of_word given k) ≡ 8
full given k long = length-word_of given k 8 (omega (arith, long))

pub new_cell-requires-clause-old : goal.new_cell-requires-clause-old
new_cell-requires-clause-old c =
    rw (full c.args.given.now c.args.k c.requires.width) (omega (arith, c.type_inv.word.fits))

-- the bytes of the new word are the merged ones
bytes_are_new : (c : goal.After-self-1) → low_bytes 8 c.new_cell.result ≡ merged
    (take 8 (drop (8 * c.args.i) c.args.self.now)) (bytes_of_word c.args.given.now c.args.k)
bytes_are_new c =
    let words = c.self.inside.words.items in
    let part = bytes_of_word c.args.given.now c.args.k in
    let wide = full c.args.given.now c.args.k c.requires.width in
    let within : c.args.i < length words = omega (arith, length-lanes_of words, ap length c.self.view_is) in
    let word : c.index-word.result.now ≡ get_or words c.args.i 0 =
    get_or_read words c.args.i c.index-word.result.now within c.index-word.ensures 0 in
    let old : low_bytes 8 c.index-word.result.now ≡ take 8 (drop (8 * c.args.i) c.args.self.now) =
    rw (word, ← c.self.view_is) (word_read words c.args.i within) in
    let width : low_bytes 8 c.new_cell.result ≡ low_bytes (length part) c.new_cell.result =
    ap (λ n. low_bytes n c.new_cell.result) (sym wide) in
    let made = ap (λ n. merged (low_bytes n c.index-word.result.now) part) wide in
    width ∙ c.new_cell.ensures.bytes ∙ made ∙ ap (λ bytes. merged bytes part) old

pub returns-clause-after : goal.returns-clause-after
returns-clause-after c =
    let words = c.self.inside.words.items in
    let part = bytes_of_word c.args.given.now c.args.k in
    let within : c.args.i < length words = omega (arith, length-lanes_of words, ap length c.self.view_is) in
    word_written words c.args.i c.new_cell.result within
    ∙ ap (λ bytes. with_window (lanes_of words) (8 * c.args.i) bytes) (bytes_are_new c)
    ∙ ap (λ lanes. with_window lanes (8 * c.args.i)
    (merged (take 8 (drop (8 * c.args.i) c.args.self.now)) part)) c.self.view_is

pub returns-clause-len : goal.returns-clause-len
returns-clause-len c =
    let now = c.args.self.now in
    let new = merged (take 8 (drop (8 * c.args.i) now)) (bytes_of_word c.args.given.now c.args.k) in
    let wide : length new ≡ 8 = ap length (sym (bytes_are_new c)) ∙ length-low_bytes 8 c.new_cell.result in
    ap length (returns-clause-after c) ∙ length-with_window now (8 * c.args.i) new
    (omega (arith, wide, c.requires.inside))
