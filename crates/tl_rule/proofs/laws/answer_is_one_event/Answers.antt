use Rattle.tl_rule.proofs.StepLaws.{answer_law}
use Rattle.tl_rule.proofs.laws.answer_is_one_event.Goals as goal

pub returns : goal.returns
returns c = answer_law
