-- No request is in flight after a reset.
use Rattle.std.proofs.Common.{Option, IfSome, subst}
use Rattle.check_unanswered.specs.View.{Holds, PendingView}
use Rattle.check_review.proofs.tally.Tally.reset_pending.Goals as goal

pub returns-in-Some-clause-holds : goal.returns-in-Some-clause-holds
returns-in-Some-clause-holds c plan later rows same holds =
    let H : Option PendingView → Type 0 = λ p. IfSome p (Holds plan rows) in
    c.reset.ensures plan later rows same (subst H c.in-Some.is holds)
