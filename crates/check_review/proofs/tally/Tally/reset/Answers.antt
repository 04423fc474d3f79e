-- Each part of the judge is reset.
use Rattle.std.proofs.Common.{◌∙◌, ◌++◌, [], Option, IfSome, ap, subst, sym}
use Rattle.check_turns.specs.View.{KeepsOrdered, OrderedView}
use Rattle.check_unanswered.specs.View.{Holds, PendingView}
use Rattle.check_coverage.specs.Bins.{bins}
use Rattle.check_coverage.specs.View.{Covers}
use Rattle.check_coverage.specs.declared.coverage.Coverage.{Coverage}
use Rattle.check_review.specs.Stretches.{bins_in, sightings_in, watched_in}
use Rattle.check_review.specs.declared.tally.Tally.{Tally}
use Rattle.check_review.proofs.Resetting.{keeps_after_reset}
use Rattle.check_review.proofs.tally.Tally.reset.Goals as goal

pub returns-clause-keeps : goal.returns-clause-keeps
returns-clause-keeps c system before course row text is kept =
    let tally = c.args.self.now in
    let new = c.reset_waits.new.self in
    let plan = course.now.plan in
    let left = c.in_ok-reset.ensures.reset plan (sightings_in course.now) kept.tallied.keeps in
    let last = c.reset_waits.ensures.rest in
    let later_mid = c.reset_coverage.ensures.rest in
    let mid = c.reset_pending.ensures.rest in
    keeps_after_reset system before course row tally.trace text tally new c.in_ok-loaded.loaded.items c.in_ok-own.own.items
    left.0 left.1 is kept
    (record {
      made = c.in_ok-loaded.ensures;
      own_made = c.in_ok-own.ensures;
      loads = ap (λ (t : Tally). t.loads) last ∙ ap (λ (t : Tally). t.loads) later_mid ∙ ap (λ (t : Tally). t.loads) mid;
      requests = ap (λ (t : Tally). t.requests) last ∙ ap (λ (t : Tally). t.requests) later_mid
          ∙ ap (λ (t : Tally). t.requests) mid;
      answered = ap (λ (t : Tally). t.answered) last ∙ ap (λ (t : Tally). t.answered) later_mid
          ∙ ap (λ (t : Tally). t.answered) mid;
      pending = λ later layout holds. subst (λ (p : Option PendingView). IfSome p (Holds later []))
          (sym (ap (λ (t : Tally). t.pending) last ∙ ap (λ (t : Tally). t.pending) later_mid))
          (c.reset_pending.ensures.holds plan later (watched_in course.now) layout holds);
      covers = λ later mirrors covers.
          subst (λ (o : Option Coverage). IfSome o (Covers later (bins plan (watched_in course.now) ++ bins_in course.ended) []))
          (sym (ap (λ (t : Tally). t.coverage) last))
          (c.reset_coverage.ensures.covers plan later (bins_in course.ended) (watched_in course.now) mirrors
          (subst (λ (o : Option Coverage). IfSome o (Covers plan (bins_in course.ended) (watched_in course.now)))
          (sym (ap (λ (t : Tally). t.coverage) mid)) covers));
      waits = λ within later waits. c.reset_waits.ensures.waits within plan later (watched_in course.now)
          (ap (λ (t : Tally). t.waits) later_mid ∙ ap (λ (t : Tally). t.waits) mid ∙ waits);
    })
    left.2
    (subst (λ (w : OrderedView). KeepsOrdered (record plan { resets = left.0; own = left.1 }) [] w)
    (sym (ap (λ (t : Tally). t.watch) last ∙ ap (λ (t : Tally). t.watch) later_mid ∙ ap (λ (t : Tally). t.watch) mid)) left.3)
