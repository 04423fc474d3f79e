use Rattle.tl_rule.proofs.StepLaws.{leave_law}
use Rattle.tl_rule.proofs.laws.leave_is_one_event.Goals as goal

pub returns : goal.returns
returns c = leave_law
