use Rattle.check_watch.proofs.Earlier.{earlier_is_lawful}
use Rattle.check_watch.proofs.laws.a_beginning_is_lawful.Goals as goal

pub returns : goal.returns
returns c = earlier_is_lawful
