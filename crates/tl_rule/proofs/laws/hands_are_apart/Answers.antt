use Rattle.tl_rule.proofs.FitsLaws.{apart_law}
use Rattle.tl_rule.proofs.laws.hands_are_apart.Goals as goal

pub returns : goal.returns
returns c = apart_law
