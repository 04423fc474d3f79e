-- The rows so far are judged, and told, and none of them began a late reply.
use Rattle.std.proofs.Common.{◌≡◌, List, ◌++◌, reverse, take, Some, ℕ}
use Rattle.check_rows.specs.Row.{SeenRow}
use Rattle.check_review.specs.Waiting.{first_late, waiting_in}
use Rattle.check_start.specs.Loads.{SystemPlan}
use Rattle.check_review.specs.Stretches.{Stretches, watched_in}
use Rattle.check_review.specs.Steps.{SameAsked}
use Rattle.check_review.specs.View.{KeepsOn, KeptIn}
use Rattle.check_review.proofs.tally.Tally.refuse_late.Given as goal

abbrev pub invariant-loop-place : goal.invariant-loop-place
invariant-loop-place l = record {
  same : SameAsked l.initial.self l.self;
  keeps : (system : SystemPlan) (before : List SeenRow) (course : Stretches system before)
      → KeptIn system before course l.initial.self
      → KeepsOn system before course (reverse (take l.place l.moment.rows) ++ before) l.initial.self.trace l.self
      l.initial.text.items l.text.items;
  late : (system : SystemPlan) (before : List SeenRow) (course : Stretches system before)
      → KeptIn system before course l.initial.self
      → (mid : Stretches system (reverse (take l.place l.moment.rows) ++ before)) (limit : ℕ) → system.within ≡ Some limit
      → first_late limit l.moment.time (waiting_in course.now.plan (watched_in course.now)) ≡ Some l.first
      → first_late limit l.moment.time (waiting_in mid.now.plan (watched_in mid.now)) ≡ Some l.first;
}
