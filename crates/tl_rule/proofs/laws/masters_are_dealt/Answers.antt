use Rattle.tl_rule.proofs.Dealing.{deals_master}
use Rattle.tl_rule.proofs.laws.masters_are_dealt.Goals as goal

pub returns : goal.returns
returns c = deals_master
