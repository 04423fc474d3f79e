-- One digit more.
use Rattle.std.proofs.Common.{◌∙◌, ◌+◌, ◌*◌, get_or, arith}
use Rattle.check_rows.proofs.Digits.{code-known, digit-known}
use Rattle.check_rows.proofs.Numbers.{one_digit_more, room}
use Rattle.check_rows.proofs.FrontLemmas.{begins-more}
use Rattle.check_rows.proofs.front.front_hexadecimal.Goals as goal

pub overflow_mul-value : goal.overflow_mul-value
overflow_mul-value c =
    let small = c.loop-count.invariant.small in
    let few = c.loop-count.invariant.few in
    let other = c.if-count-eq-ADDRESS_DIGITS.false in
    let most = room c.loop-count.count (omega (arith, few, other)) in
    omega (arith, small, most)

pub overflow_add-value : goal.overflow_add-value
overflow_add-value c =
    let small = c.loop-count.invariant.small in
    let few = c.loop-count.invariant.few in
    let other = c.if-count-eq-ADDRESS_DIGITS.false in
    let most = room c.loop-count.count (omega (arith, few, other)) in
    let digit = c.if-code-ge-UNKNOWN.false in
    let is = c.from.ensures in
    omega (arith, small, most, digit, is)

pub loop-count-preserved : goal.loop-count-preserved
loop-count-preserved c =
    let few = c.loop-count.invariant.few in
    let other = c.if-count-eq-ADDRESS_DIGITS.false in
    let is = c.from.ensures in
    let code = c.digit_code-code.ensures in
    let digit = c.if-code-ge-UNKNOWN.false in
    let text = c.args.text.now in
    let count = c.loop-count.count in
    record {
      number = begins-more 16 text c.loop-count.value count c.from.result (16 * c.loop-count.value + c.from.result)
          (c.loop-count-test.true) (digit-known (get_or text count 0) (omega (arith, code, digit)))
          (is ∙ code ∙ code-known (get_or text count 0) (omega (arith, code, digit))) (omega arith)
          c.loop-count.invariant.number;
      small = one_digit_more count c.loop-count.value c.from.result c.loop-count.invariant.small (omega (arith, is, digit));
      few = omega (arith, few, other);
    }
