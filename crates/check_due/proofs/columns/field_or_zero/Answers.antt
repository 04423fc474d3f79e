-- The number that there is, or 0.
use Rattle.check_due.proofs.Numbers.{zero-read}
use Rattle.check_due.proofs.ReadLemmas.{field-if-any}
use Rattle.check_due.proofs.columns.field_or_zero.Goals as goal

pub returns-in-Some : goal.returns-in-Some
returns-in-Some c = rw c.in-Some.is (field-if-any c.in-Some.number c.field_of.result c.field_of.ensures)

pub returns-in-None : goal.returns-in-None
returns-in-None c = rw c.in-None.is (zero-read 255)
