-- Each line has no line end.
use Rattle.check_samples.proofs.Plain.{all-plain}
use Rattle.check_samples.proofs.due.DueRows.count.Goals as goal

pub returns-clause-plain : goal.returns-clause-plain
returns-clause-plain c = rw (← c.self.view_is) (all-plain c.self.inside.bits.items c.self.inside.rows.items)
