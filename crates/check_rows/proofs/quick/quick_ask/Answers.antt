-- Its columns, one after the other.
use Rattle.check_rows.proofs.FrontLemmas.{ask-spells}
use Rattle.check_rows.proofs.quick.quick_ask.Goals as goal

pub returns : goal.returns
returns c =
    ask-spells _ _ _ _ _ _ _ _ _ _ _ _ _ _ _ _ _ c.in-Some-take_nothing.rest.now c.in-Some.ensures.value c.in-Some-take_decimal.ensures.value
    c.in-Some-take_decimal-2.ensures.value c.in-Some-take_decimal-3.ensures.value c.in-Some-take_address.ensures
    c.in-Some-take_mask.ensures c.in-Some-take_lanes.ensures c.in-Some-take_nothing.ensures
    c.in-Some-last_mark.ensures.value c.in-Some-last_mark.ensures.last
