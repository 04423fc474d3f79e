-- A number that is small enough.
use Rattle.std.proofs.Common.{arith}
use Rattle.check_rows.proofs.FrontLemmas.{spells-decimal}
use Rattle.check_rows.proofs.front.take_decimal.Goals as goal

pub returns-in-Some-clause-value : goal.returns-in-Some-clause-value
returns-in-Some-clause-value c =
    let fits = c.ranges.most.fits in
    spells-decimal c.args.most c.args.text.now c.in-Some.value c.in-Some.rest.now c.if-value-most.true
    (omega (arith, fits)) c.in-Some.ensures
