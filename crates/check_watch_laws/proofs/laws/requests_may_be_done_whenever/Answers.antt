use Rattle.check_watch_laws.proofs.Whenever.{whenever_is_due, whenever_is_lawful}
use Rattle.check_watch_laws.proofs.laws.requests_may_be_done_whenever.Goals as goal

pub returns-clause-due : goal.returns-clause-due
returns-clause-due c = whenever_is_due

pub returns-clause-lawful : goal.returns-clause-lawful
returns-clause-lawful c = whenever_is_lawful
