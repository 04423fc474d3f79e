use Rattle.std.proofs.Common.{◌*◌, ◌≤◌, ◌<◌, ◌^◌, ◌-◌, ⊎_elim, length, get_or, arith, rules, tests}
use Rattle.std.proofs.lemmas.Bool.{cases_lt}
use Rattle.tl_types.specs.Bytes.{bytes_of_words}
use Rattle.tl_ops.specs.Number.{number}
use Rattle.check_memory.proofs.WordNumbers.{span, is_high, is_low}
use Rattle.check_memory.proofs.wide.is_negative.Goals as goal

pub returns : goal.returns
returns c =
    let words = c.args.words.now in
    let bytes = bytes_of_words words in
    let top = get_or words (length words - 1) 0 in
    let small : top < 2 ^ 64 = search rules in (
      λ is. is_high words c.requires (search (rules, tests)) small,
      λ high. ⊎_elim
          (λ (low : top < 2 ^ 63).
          let below : 2 * number bytes < span bytes = is_low words c.requires low in
          absurd (omega (arith, below, high)))
          (λ (from : 2 ^ 63 ≤ top). search (rules, tests)) (cases_lt top (2 ^ 63)),
    )
