-- The flag that there is, or the other.
use Rattle.check_due.proofs.ReadLemmas.{flag-if-any}
use Rattle.check_rows.proofs.FrontLemmas.{no-flag}
use Rattle.check_due.proofs.columns.flag_or.Goals as goal

pub returns-in-Some : goal.returns-in-Some
returns-in-Some c = rw c.in-Some.is (flag-if-any c.args.absent c.in-Some.number c.flag_of.result c.flag_of.ensures)

pub returns-in-None : goal.returns-in-None
returns-in-None c = rw c.in-None.is (no-flag c.args.absent)
