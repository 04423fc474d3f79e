-- Its columns, one after the other.
use Rattle.check_rows.proofs.FrontLemmas.{reply-spells}
use Rattle.check_rows.proofs.quick.quick_reply.Goals as goal

pub returns : goal.returns
returns c =
    reply-spells _ _ _ _ _ _ _ _ _ _ _ _ _ c.in-Some-take_nothing.rest.now _ _ _ c.in-Some.ensures.value
    c.in-Some-take_decimal_or_zero.ensures.value c.in-Some-take_decimal.ensures.value c.in-Some-take_decimal-2.ensures.value
    c.in-Some-take_nothing.ensures c.in-Some-take_nothing-2.ensures c.in-Some-take_lanes.ensures c.in-Some-take_flag.ensures
    (rw (← c.asks_for_mark-asked.ensures) c.in-Some-last_flag_or.ensures.flag) c.in-Some-last_flag_or.ensures.last
