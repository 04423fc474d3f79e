use Rattle.check_text_laws.proofs.GroupRules.{rules_make_lawful}
use Rattle.check_text_laws.proofs.groups.beats_that_keep_the_rules_are_lawful.Goals as goal

pub returns : goal.returns
returns c = rules_make_lawful
