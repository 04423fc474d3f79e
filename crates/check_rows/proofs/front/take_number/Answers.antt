-- Digits and a comma are a number.
use Rattle.std.proofs.Common.{arith}
use Rattle.check_rows.proofs.FrontLemmas.{first-number}
use Rattle.check_rows.proofs.front.take_number.Goals as goal

pub returns : goal.returns
returns c =
    let some = c.if-count-eq0.false in
    rw c.in-Some-behind_comma.ensures.rest
    (first-number c.args.text.now c.in-Some.value c.in-Some.count (omega (arith, some))
    c.in-Some-behind_comma.ensures.inside c.in-Some-behind_comma.ensures.comma c.in-Some.ensures)
