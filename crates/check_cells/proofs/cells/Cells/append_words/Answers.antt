use Rattle.std.proofs.Common.{◌≡◌, ◌∙◌, ℕ, ◌+◌, ◌-◌, ◌*◌, ◌/◌, ◌^◌, ◌≤◌, List, ◌++◌, length, take, drop, Option, bit_and, ap, arith, append_assoc}
use Rattle.std.specs.Int.{bit_at}
use Rattle.tl_types.specs.Bytes.{given_in}
use Rattle.tl_ops.specs.Number.{low_bytes}
use Rattle.check_cells.proofs.Seen.{mask_of_word, word_more, length-front, all_seen}
use Rattle.check_cells.proofs.cells.Cells.append_words.Goals as goal

pub push_word-requires-clause-aligned : goal.push_word-requires-clause-aligned
push_word-requires-clause-aligned c =
    let w = c.loop-word.word in
    let bytes = c.args.bytes.now in
    let long = length-front c.args.known (8 * w) c.args.self.now bytes (omega arith) in
    omega (arith, ap length c.loop-word.invariant, long, c.requires.aligned)

pub push_word-requires-clause-room : goal.push_word-requires-clause-room
push_word-requires-clause-room c =
    let w = c.loop-word.word in
    let bytes = c.args.bytes.now in
    let long = length-front c.args.known (8 * w) c.args.self.now bytes (omega arith) in
    omega (arith, ap length c.loop-word.invariant, long, c.requires.room)

pub loop-word-preserved : goal.loop-word-preserved
loop-word-preserved c =
    let bytes = c.args.bytes.now in
    let known = c.args.known in
    let w = c.loop-word.word in
    let shown = given_in (bit_at known) bytes in
    let mask = bit_and (known / 2 ^ (8 * w)) 255 in
    let word = c.word_of-cell.result in
    let piece : 8 * w + 8 - 8 * w ≡ 8 = omega arith in
    let cell : low_bytes 8 word ≡ take 8 (drop (8 * w) bytes) = rw piece at c.word_of-cell.ensures in
    c.push_word.ensures
    ∙ ap (λ (s : List (Option ℕ)). s ++ given_in (bit_at mask) (low_bytes 8 word)) c.loop-word.invariant
    ∙ append_assoc c.args.self.now (take (8 * w) shown) (given_in (bit_at mask) (low_bytes 8 word))
    ∙ ap (λ (s : List (Option ℕ)). c.args.self.now ++ s)
    (word_more known w word mask bytes cell (mask_of_word known (8 * w)))

pub returns : goal.returns
returns c =
    let bytes = c.args.bytes.now in
    let enough : length bytes ≤ 8 * c.loop-word.word = omega (arith, c.loop-word-test.false, c.requires.whole) in
    c.loop-word.invariant
    ∙ ap (λ (s : List (Option ℕ)). c.args.self.now ++ s) (all_seen c.args.known (8 * c.loop-word.word) bytes enough)
