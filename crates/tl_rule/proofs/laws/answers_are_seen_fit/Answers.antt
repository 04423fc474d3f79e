use Rattle.tl_rule.proofs.FitsLaws.{answers_law}
use Rattle.tl_rule.proofs.laws.answers_are_seen_fit.Goals as goal

pub returns : goal.returns
returns c = answers_law
