-- One digit more, or one that is none.
use Rattle.std.proofs.Common.{◌∙◌, sym, arith, take_all}
use Rattle.std.proofs.lemmas.Grind.{common_steps}
use Rattle.check_rows.specs.Number.{hex_of}
use Rattle.check_rows.proofs.Digits.{digit-large}
use Rattle.check_rows.proofs.Numbers.{IsDigitAt, digits_step, hex_of-digits, hex_of-none, one_digit_more, room, value_step}
use Rattle.check_rows.proofs.digit.read_hex.Goals as goal

pub returns-then-is_empty : goal.returns-then-is_empty
unfolding hex_of
returns-then-is_empty c = grind (arith)

pub returns-then-code-ge-UNKNOWN : goal.returns-then-code-ge-UNKNOWN
returns-then-code-ge-UNKNOWN c =
    sym (hex_of-none c.args.word.now c.loop-digit.digit-index (omega arith)
    (digit-large _ (rw c.digit_code-code.ensures at c.if-code-ge-UNKNOWN.true)))

pub overflow_mul-value : goal.overflow_mul-value
overflow_mul-value c =
    let small = c.loop-digit.invariant.small in
    let most = room c.loop-digit.digit-index (omega arith) in
    omega arith

pub overflow_add-value : goal.overflow_add-value
overflow_add-value c =
    let small = c.loop-digit.invariant.small in
    let most = room c.loop-digit.digit-index (omega arith) in
    omega arith

pub loop-digit-preserved : goal.loop-digit-preserved
loop-digit-preserved c =
    let word = c.args.word.now in
    let i = c.loop-digit.digit-index in
    let here : IsDigitAt word i c.from.result = record {
      inside = omega arith;
      is = c.from.ensures ∙ c.digit_code-code.ensures;
      small = omega arith;
    } in
    record {
      digits = digits_step word i c.from.result here c.loop-digit.invariant.digits;
      value = value_step word i c.loop-digit.value c.from.result here c.loop-digit.invariant.value;
      small = one_digit_more i c.loop-digit.value c.from.result c.loop-digit.invariant.small (omega arith);
    }

pub returns : goal.returns
returns c =
    let word = c.args.word.now in
    let all = take_all c.loop-digit.digit-index word (omega arith) in
    rw (c.loop-digit.invariant.value, all)
    (sym (hex_of-digits word (grind (arith, common_steps)) (rw all at c.loop-digit.invariant.digits)))
