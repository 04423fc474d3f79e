use Rattle.check_review.proofs.Stretching.{all_untraced}
use Rattle.check_review.proofs.laws.nothing_is_told_untraced.Goals as goal

pub returns : goal.returns
returns c = all_untraced
