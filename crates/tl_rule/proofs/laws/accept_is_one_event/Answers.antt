use Rattle.tl_rule.proofs.StepLaws.{accept_law}
use Rattle.tl_rule.proofs.laws.accept_is_one_event.Goals as goal

pub returns : goal.returns
returns c = accept_law
