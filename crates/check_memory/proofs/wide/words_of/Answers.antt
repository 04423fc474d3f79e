use Rattle.std.proofs.Common.{◌≡◌, ◌∙◌, ◌+◌, ◌-◌, ◌*◌, ◌<◌, length, take, drop, ap, arith}
use Rattle.std.specs.Int.{to_le_bytes, w64}
use Rattle.std.proofs.lemmas.List.{length-set}
use Rattle.check_memory.proofs.WordNumbers.{words_more}
use Rattle.check_memory.proofs.wide.words_of.Goals as goal

pub loop-k-preserved : goal.loop-k-preserved
loop-k-preserved c =
    let bytes = c.args.bytes.now in
    let words = c.loop-k.words in
    let k = c.loop-k.k in
    let within : k < length words = omega (arith, c.loop-k-test.true, c.requires.limit, c.loop-k.invariant.counted) in
    let eight : 8 * k + 8 - 8 * k ≡ 8 = omega arith in
    let spelled : to_le_bytes w64 c.word_of.result ≡ take 8 (drop (8 * k) bytes) =
    c.word_of.ensures ∙ ap (λ n. take n (drop (8 * k) bytes)) eight in
    record {
      spelled = words_more words bytes k c.word_of.result within c.loop-k.invariant.spelled spelled;
      counted = length-set words k c.word_of.result ∙ c.loop-k.invariant.counted;
    }
