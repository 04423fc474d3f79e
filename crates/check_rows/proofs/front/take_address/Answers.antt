-- Digits and a comma are an address.
use Rattle.std.proofs.Common.{arith}
use Rattle.check_rows.proofs.FrontLemmas.{spells-address}
use Rattle.check_rows.proofs.front.take_address.Goals as goal

pub returns : goal.returns
returns c =
    let some = c.if-count-eq0.false in
    rw c.in-Some-behind_comma.ensures.rest
    (spells-address c.args.text.now c.in-Some.value c.in-Some.count (omega (arith, some)) c.in-Some.ensures.few
    c.in-Some-behind_comma.ensures.inside c.in-Some-behind_comma.ensures.comma c.in-Some.ensures.number)
