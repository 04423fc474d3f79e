use Rattle.tl_rule.proofs.FitsLaws.{lists_law}
use Rattle.tl_rule.proofs.laws.lists_are_just_own.Goals as goal

pub returns : goal.returns
returns c = lists_law
