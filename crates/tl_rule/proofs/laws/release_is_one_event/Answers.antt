use Rattle.tl_rule.proofs.StepLaws.{release_law}
use Rattle.tl_rule.proofs.laws.release_is_one_event.Goals as goal

pub returns : goal.returns
returns c = release_law
