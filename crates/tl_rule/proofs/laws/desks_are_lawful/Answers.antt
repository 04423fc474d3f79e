use Rattle.tl_rule.proofs.FitsLaws.{desks_law}
use Rattle.tl_rule.proofs.laws.desks_are_lawful.Goals as goal

pub returns : goal.returns
returns c = desks_law
