use Rattle.tl_rule.proofs.StepLaws.{look_law}
use Rattle.tl_rule.proofs.laws.look_is_one_event.Goals as goal

pub returns : goal.returns
returns c = look_law
