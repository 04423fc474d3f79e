-- An empty column is 0.
use Rattle.check_rows.proofs.FrontLemmas.{spells-given, spells-zero}
use Rattle.check_rows.proofs.front.take_decimal_or_zero.Goals as goal

pub returns-in-Some-clause-value : goal.returns-in-Some-clause-value
returns-in-Some-clause-value c = spells-zero c.args.most c.args.text.now c.in-Some.rest.now c.in-Some.ensures

pub returns-in-Some-take_decimal-clause-value : goal.returns-in-Some-take_decimal-clause-value
returns-in-Some-take_decimal-clause-value c =
    spells-given c.args.most c.args.text.now c.in-Some-take_decimal.number c.in-Some-take_decimal.rest.now
    c.in-Some-take_decimal.ensures.value
