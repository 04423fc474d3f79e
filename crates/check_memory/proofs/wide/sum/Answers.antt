use Rattle.std.proofs.Common.{◌≡◌, ◌∙◌, ◌+◌, ◌^◌, ◌<◌, ◌≤◌, ◌++◌, length, drop, get_or, refl, sym, ap, arith, rules}
use Rattle.std.specs.Int.{from_bool, to_le_bytes, w64}
use Rattle.std.proofs.lemmas.List.{drop_all}
use Rattle.tl_types.specs.Bytes.{bytes_of_words}
use Rattle.check_memory.specs.Known.{known}
use Rattle.check_memory.proofs.WordNumbers.{added, added_more, sum_is, gathered, gathered_long, all_gathered}
use Rattle.check_memory.proofs.wide.sum.Goals as goal

pub loop-k-preserved : goal.loop-k-preserved
loop-k-preserved c =
    let old = c.args.old.now in
    let operand = c.args.operand.now in
    let k = c.loop-k.k in
    let so_far = c.loop-k.bytes in
    let word = c.carrying_add-word.result.0 in
    let above = from_bool c.carrying_add-word.result.1 in
    let within : k < length old = omega (arith, c.loop-k-test.true) in
    let x : get_or old k 0 < 2 ^ 64 = search rules in
    let y : get_or operand k 0 < 2 ^ 64 = search rules in
    let fits : word < 2 ^ 64 = search rules in
    let more = added_more old operand k (get_or old k 0) (get_or operand k 0) (from_bool c.loop-k.carry) word above
    within c.requires.paired refl refl x y fits c.carrying_add-word.ensures in
    let pushed : c.push_given.new.self ≡ so_far ++ known (to_le_bytes w64 word) =
    c.push_given.ensures ∙ ap (λ bytes. so_far ++ known bytes) c.to_le_bytes.ensures in
    record {
      gathered = gathered so_far c.push_given.new.self (to_le_bytes w64 word)
          (bytes_of_words (added above (drop (k + 1) old) (drop (k + 1) operand))) (bytes_of_words (added 0 old operand)) pushed
          (ap (λ words. so_far ++ known (bytes_of_words words)) (sym more) ∙ c.loop-k.invariant.gathered);
      counted = gathered_long so_far c.push_given.new.self word k pushed c.loop-k.invariant.counted;
    }

pub returns : goal.returns
returns c =
    let old = c.args.old.now in
    let operand = c.args.operand.now in
    let k = c.loop-k.k in
    let past : length old ≤ k = omega (arith, c.loop-k-test.false) in
    all_gathered c.loop-k.bytes (bytes_of_words (added (from_bool c.loop-k.carry) (drop k old) (drop k operand)))
    (bytes_of_words (added 0 old operand))
    (ap (λ xs. bytes_of_words (added (from_bool c.loop-k.carry) xs (drop k operand))) (drop_all k old past))
    c.loop-k.invariant.gathered
    ∙ ap known (sum_is old operand c.requires.paired)
