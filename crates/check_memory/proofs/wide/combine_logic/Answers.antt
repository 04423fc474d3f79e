use Rattle.std.proofs.Common.{◌≡◌, ◌∙◌, ◌+◌, ◌<◌, ◌≤◌, ◌++◌, length, drop, get_or, refl, sym, ap, arith}
use Rattle.std.specs.Int.{to_le_bytes, w64}
use Rattle.std.proofs.lemmas.List.{drop_all}
use Rattle.tl_types.specs.Bytes.{bytes_of_words}
use Rattle.tl_ops.specs.Window.{combine_logic}
use Rattle.check_memory.specs.Known.{known}
use Rattle.check_memory.proofs.WordNumbers.{logic_more, gathered, gathered_long, all_gathered}
use Rattle.check_memory.proofs.wide.combine_logic.Goals as goal

pub loop-k-preserved : goal.loop-k-preserved
loop-k-preserved c =
    let op = c.args.op in
    let old = c.args.old.now in
    let operand = c.args.operand.now in
    let k = c.loop-k.k in
    let so_far = c.loop-k.bytes in
    let word = c.combine_word-word.result in
    let within : k < length old = omega (arith, c.loop-k-test.true) in
    let left = combine_logic op (bytes_of_words (drop (k + 1) old)) (bytes_of_words (drop (k + 1) operand)) in
    let more = logic_more op old operand k (get_or old k 0) (get_or operand k 0) within c.requires.paired refl refl in
    let pushed : c.push_given.new.self ≡ so_far ++ known (to_le_bytes w64 word) =
    c.push_given.ensures ∙ ap (λ bytes. so_far ++ known bytes) c.to_le_bytes.ensures in
    record {
      gathered = gathered so_far c.push_given.new.self (to_le_bytes w64 word) left
          (combine_logic op (bytes_of_words old) (bytes_of_words operand)) pushed
          (ap (λ bytes. so_far ++ known (bytes ++ left)) c.combine_word-word.ensures
          ∙ ap (λ bytes. so_far ++ known bytes) (sym more) ∙ c.loop-k.invariant.gathered);
      counted = gathered_long so_far c.push_given.new.self word k pushed c.loop-k.invariant.counted;
    }

pub returns : goal.returns
returns c =
    let old = c.args.old.now in
    let operand = c.args.operand.now in
    let k = c.loop-k.k in
    let past : length old ≤ k = omega (arith, c.loop-k-test.false) in
    all_gathered c.loop-k.bytes (combine_logic c.args.op (bytes_of_words (drop k old)) (bytes_of_words (drop k operand)))
    (combine_logic c.args.op (bytes_of_words old) (bytes_of_words operand))
    (ap (λ xs. combine_logic c.args.op (bytes_of_words xs) (bytes_of_words (drop k operand))) (drop_all k old past))
    c.loop-k.invariant.gathered
