-- An empty column is the flag that is handed in, and a flag has no comma.
use Rattle.std.proofs.Common.{sym}
use Rattle.check_rows.proofs.FrontLemmas.{empty-alone, empty-last, flag-given, flag-plain}
use Rattle.check_rows.proofs.front.last_flag_or.Goals as goal

pub returns-then-is_empty-clause-flag : goal.returns-then-is_empty-clause-flag
returns-then-is_empty-clause-flag c = empty-last c.args.absent c.args.text.now (sym c.if-is_empty.ensures)

pub returns-then-is_empty-clause-last : goal.returns-then-is_empty-clause-last
returns-then-is_empty-clause-last c = empty-alone c.args.text.now (sym c.if-is_empty.ensures)

pub returns-in-Ok-clause-flag : goal.returns-in-Ok-clause-flag
returns-in-Ok-clause-flag c = flag-given c.args.absent c.args.text.now c.in-Ok.flag (sym c.in-Ok.ensures)

pub returns-in-Ok-clause-last : goal.returns-in-Ok-clause-last
returns-in-Ok-clause-last c = flag-plain c.args.text.now c.in-Ok.flag (sym c.in-Ok.ensures)
