use Rattle.check_watch_laws.proofs.Crossing.{crossing}
use Rattle.check_watch_laws.proofs.laws.messages_cross.Goals as goal

pub returns : goal.returns
returns c = crossing
