use Rattle.check_turns.proofs.Ordering.{in_order}
use Rattle.check_turns.proofs.laws.replies_come_in_order.Goals as goal

pub returns : goal.returns
returns c plan past link turns few fifo = in_order plan link fifo past few turns
