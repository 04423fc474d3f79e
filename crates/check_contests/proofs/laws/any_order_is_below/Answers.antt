use Rattle.check_contests.proofs.Runs.{any_order_is_below}
use Rattle.check_contests.proofs.laws.any_order_is_below.Goals as goal

pub returns : goal.returns
returns c = any_order_is_below
