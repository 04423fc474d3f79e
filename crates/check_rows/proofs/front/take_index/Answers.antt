-- A number that a link has.
use Rattle.check_rows.proofs.FrontLemmas.{spells-index}
use Rattle.check_rows.proofs.front.take_index.Goals as goal

pub returns-in-Some-clause-value : goal.returns-in-Some-clause-value
returns-in-Some-clause-value c =
    spells-index c.args.count c.args.text.now c.in-Some.number c.in-Some.rest.now c.if-number-count.true c.in-Some.ensures
