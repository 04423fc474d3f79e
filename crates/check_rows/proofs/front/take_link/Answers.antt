-- A letter and the number of a link.
use Rattle.check_rows.proofs.FrontLemmas.{spells-master, spells-port}
use Rattle.check_rows.proofs.front.take_link.Goals as goal

pub returns-in-Some-take_index-clause-value : goal.returns-in-Some-take_index-clause-value
returns-in-Some-take_index-clause-value c =
    rw c.in-Some.ensures
    (spells-master c.args.buses.now.masters.now c.args.buses.now.ports.now c.in-Some.digits.now
    c.in-Some-take_index.number c.in-Some-take_index.rest.now c.in-Some-take_index.ensures.value)

pub returns-in-Some-take_index-2-clause-value : goal.returns-in-Some-take_index-2-clause-value
returns-in-Some-take_index-2-clause-value c =
    rw c.in-Some-behind_byte.ensures
    (spells-port c.args.buses.now.masters.now c.args.buses.now.ports.now c.in-Some-behind_byte.digits.now
    c.in-Some-take_index-2.number c.in-Some-take_index-2.rest.now c.in-Some-take_index-2.ensures.value)
