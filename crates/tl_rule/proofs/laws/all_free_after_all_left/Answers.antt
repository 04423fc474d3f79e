use Rattle.tl_rule.proofs.FitsLaws.{all_free_law}
use Rattle.tl_rule.proofs.laws.all_free_after_all_left.Goals as goal

pub returns : goal.returns
returns c = all_free_law
