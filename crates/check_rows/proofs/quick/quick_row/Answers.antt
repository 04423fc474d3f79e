-- Three columns, and those of the beat.
use Rattle.check_rows.proofs.FrontLemmas.{row-spells}
use Rattle.check_rows.proofs.quick.quick_row.Goals as goal

pub returns-clause-value : goal.returns-clause-value
returns-clause-value c =
    row-spells _ _ _ _ _ _ _ _ _ _ _ _ _ c.in-Some.ensures.value c.in-Some-take_link.ensures.value
    c.in-Some-take_channel.ensures c.of-bus.ensures.bytes c.in-Some-quick_beat.ensures
