use Rattle.check_watch_laws.proofs.Sequential.{done_at, kept_at}
use Rattle.check_watch_laws.proofs.laws.memories_are_sequential.Goals as goal

pub returns-clause-done : goal.returns-clause-done
returns-clause-done c = done_at

pub returns-clause-kept : goal.returns-clause-kept
returns-clause-kept c = kept_at
