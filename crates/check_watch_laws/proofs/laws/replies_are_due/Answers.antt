use Rattle.check_watch_laws.proofs.Done.{are_replayed}
use Rattle.check_watch_laws.proofs.Sequential.{due_at}
use Rattle.check_watch_laws.proofs.laws.replies_are_due.Goals as goal

pub returns-clause-due : goal.returns-clause-due
returns-clause-due c = due_at

pub returns-clause-kept : goal.returns-clause-kept
returns-clause-kept c = are_replayed
