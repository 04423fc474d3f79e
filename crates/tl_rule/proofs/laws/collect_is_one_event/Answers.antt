use Rattle.tl_rule.proofs.StepLaws.{collect_law}
use Rattle.tl_rule.proofs.laws.collect_is_one_event.Goals as goal

pub returns : goal.returns
returns c = collect_law
