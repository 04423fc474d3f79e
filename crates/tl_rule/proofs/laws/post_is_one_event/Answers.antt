use Rattle.tl_rule.proofs.StepLaws.{post_law}
use Rattle.tl_rule.proofs.laws.post_is_one_event.Goals as goal

pub returns : goal.returns
returns c = post_law
