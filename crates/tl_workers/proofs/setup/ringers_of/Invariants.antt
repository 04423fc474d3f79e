use Rattle.std.proofs.Common.{◌≡◌, vec_len}
use Rattle.tl_workers.proofs.setup.ringers_of.Given as goal

-- one for each bell so far
abbrev pub invariant-loop-bell : goal.invariant-loop-bell
invariant-loop-bell l = vec_len l.ringers ≡ l.bell-index
