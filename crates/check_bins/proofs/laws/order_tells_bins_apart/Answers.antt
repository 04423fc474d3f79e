use Rattle.check_bins.proofs.Exact.{exact_eq, same}
use Rattle.check_bins.proofs.laws.order_tells_bins_apart.Goals as goal

pub returns : goal.returns
returns c one other = (exact_eq one other, same one other)
