use Rattle.std.proofs.Common.{arith, ◌≡◌, None, sym, subst}
use Rattle.check_unanswered.specs.Table.{open_at}
use Rattle.check_unanswered.proofs.Tables.{none_more}
use Rattle.check_unanswered.proofs.pending.fresh_table.Goals as goal

pub loop-wide-preserved : goal.loop-wide-preserved
loop-wide-preserved c = (
  omega (arith, c.in_ok-push.ensures.len, c.loop-wide.invariant.0),
  λ wide. subst (λ t. open_at t wide ≡ None) (sym c.in_ok-push.ensures.items)
      (none_more c.loop-wide.table.items c.loop-wide.invariant.1 wide),
)
