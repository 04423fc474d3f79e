use Rattle.check_text_laws.proofs.GroupRules.{always_keeps, all_compliant}
use Rattle.check_text_laws.proofs.groups.lawful_beats_keep_the_rules.Goals as goal

pub returns-clause-rules : goal.returns-clause-rules
returns-clause-rules c = always_keeps

pub returns-clause-alone : goal.returns-clause-alone
returns-clause-alone c = all_compliant
