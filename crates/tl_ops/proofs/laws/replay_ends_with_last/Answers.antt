use Rattle.tl_ops.proofs.Histories.{replay-append}
use Rattle.tl_ops.proofs.laws.replay_ends_with_last.Goals as goal

pub returns : goal.returns
returns c = replay-append
