use Rattle.tl_rule.proofs.Dealing.{deals_port}
use Rattle.tl_rule.proofs.laws.ports_are_dealt.Goals as goal

pub returns : goal.returns
returns c = deals_port
