use Rattle.tl_rule.proofs.StepLaws.{claim_law}
use Rattle.tl_rule.proofs.laws.claim_is_one_event.Goals as goal

pub returns : goal.returns
returns c = claim_law
