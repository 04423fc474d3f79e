use Rattle.tl_threads.specs.Left.{HaveLeft}
use Rattle.tl_threads.proofs.named.first_not_left.Given as goal

-- the masters so far have left
abbrev pub invariant-loop-master : goal.invariant-loop-master
invariant-loop-master l = HaveLeft l.master-counter l.account.left.items
