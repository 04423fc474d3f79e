use Rattle.tl_ops.proofs.Sums.{number_is_sum}
use Rattle.tl_ops.proofs.laws.number_is_sum.Goals as goal

pub returns : goal.returns
returns c = number_is_sum
