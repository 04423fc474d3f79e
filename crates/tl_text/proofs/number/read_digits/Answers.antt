-- One more digit is read, and at the end all of them are.
use Rattle.std.proofs.Common.{◌∙◌, Some, sym, ap, arith, take_all}
use Rattle.std.proofs.lemmas.Int.Digits.{digits_more, digits_value_more}
use Rattle.std.proofs.lemmas.Grind.{common_steps}
use Rattle.tl_text.proofs.NumberLemmas.{digits_of-digits}
use Rattle.tl_text.proofs.number.read_digits.Goals as goal

pub loop-byte-preserved : goal.loop-byte-preserved
loop-byte-preserved c =
    let at = c.loop-byte.byte-index in
    let word = c.args.word.now in
    record {
      digits = digits_more c.args.radix word at (omega arith) c.loop-byte.invariant.digits
          (grind (arith, common_steps));
      value = grind (arith, common_steps, digits_value_more c.args.radix word at);
    }

pub returns : goal.returns
returns c =
    let word = c.args.word.now in
    let whole = take_all c.loop-byte.byte-index word (omega arith) in
    let digits = rw whole at c.loop-byte.invariant.digits in
    let value = rw whole at c.loop-byte.invariant.value in
    ap Some value ∙ sym (digits_of-digits c.args.radix word digits (grind (arith, common_steps)))
