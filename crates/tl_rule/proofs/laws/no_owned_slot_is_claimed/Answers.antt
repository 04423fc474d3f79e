use Rattle.tl_rule.proofs.FitsLaws.{unclaimed_law}
use Rattle.tl_rule.proofs.laws.no_owned_slot_is_claimed.Goals as goal

pub returns : goal.returns
returns c = unclaimed_law
