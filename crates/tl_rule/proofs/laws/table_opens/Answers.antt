use Rattle.tl_rule.proofs.StepLaws.{opens_law}
use Rattle.tl_rule.proofs.laws.table_opens.Goals as goal

pub returns : goal.returns
returns c = opens_law
