use Rattle.check_watch_laws.proofs.Back.{rules_make_lawful}
use Rattle.check_watch_laws.proofs.laws.beats_that_keep_the_rules_are_lawful.Goals as goal

pub returns : goal.returns
returns c = rules_make_lawful
