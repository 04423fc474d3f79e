use Rattle.check_review.proofs.Stretching.{one_told_of_all}
use Rattle.check_review.proofs.laws.one_text_is_told.Goals as goal

pub returns : goal.returns
returns c = one_told_of_all
