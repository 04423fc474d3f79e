-- One digit more.
use Rattle.std.proofs.Common.{◌+◌, ◌*◌, get_or, arith}
use Rattle.std.proofs.lemmas.Bool.{lt-ltb}
use Rattle.std.specs.Char.{digit_value}
use Rattle.check_rows.proofs.FrontLemmas.{begins-more, decimal_digit}
use Rattle.check_rows.proofs.front.front_decimal.Goals as goal

pub loop-count-preserved : goal.loop-count-preserved
loop-count-preserved c =
    let byte = get_or c.args.text.now c.loop-count.count 0 in
    let digit = c.if-not-is_ascii_digit.ensures in
    let value = decimal_digit byte digit.cases.0 digit.cases.1 in
    let is = c.from.ensures in
    begins-more 10 c.args.text.now c.loop-count.value c.loop-count.count c.from.result
    (10 * c.loop-count.value + c.from.result) c.loop-count-test.true (lt-ltb (digit_value byte) 10 digit.bound)
    (omega (arith, is, value)) (omega arith) c.loop-count.invariant
