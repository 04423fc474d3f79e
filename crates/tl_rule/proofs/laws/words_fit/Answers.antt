use Rattle.tl_rule.proofs.FitsLaws.{words_law}
use Rattle.tl_rule.proofs.laws.words_fit.Goals as goal

pub returns : goal.returns
returns c = words_law
