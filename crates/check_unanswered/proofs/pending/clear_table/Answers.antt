-- One place more is cleared.
use Rattle.std.proofs.Common.{Option, None, refl}
use Rattle.check_contests.proofs.Mapped.{mapped-more}
use Rattle.check_rows.specs.declared.request.Open.{Open}
use Rattle.check_unanswered.proofs.pending.clear_table.Goals as goal

pub loop-ask-preserved : goal.loop-ask-preserved
loop-ask-preserved c =
    mapped-more (λ (_ : Option Open). None) c.args.table.now c.loop-ask.table c.loop-ask.ask-index
    None None c.loop-ask-test.true c.loop-ask.invariant refl
