-- One master more has left.
use borrow.Author.Count.{below_more}
use Rattle.std.proofs.Common.{Contains, ℕ, rules}
use Rattle.tl_threads.proofs.named.first_not_left.Goals as goal

pub loop-master-preserved : goal.loop-master-preserved
loop-master-preserved c =
    let left = c.args.account.now.left.items in
    let here : Contains left c.loop-master.master-counter = rw (← c.deref.ensures.value) (search rules) in
    below_more (λ (m : ℕ). Contains left m) c.loop-master.master-counter c.loop-master.invariant here
