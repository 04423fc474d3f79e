-- The rows so far are judged, and told.
use Rattle.std.proofs.Common.{List, ◌++◌, reverse, take}
use Rattle.check_rows.specs.Row.{SeenRow}
use Rattle.check_start.specs.Loads.{SystemPlan}
use Rattle.check_review.specs.Stretches.{Stretches}
use Rattle.check_review.specs.Steps.{SameAsked}
use Rattle.check_review.specs.View.{KeepsOn, KeptIn}
use Rattle.check_review.proofs.tally.Tally.judge_rows.Given as goal

abbrev pub invariant-loop-place : goal.invariant-loop-place
invariant-loop-place l = record {
  same : SameAsked l.initial.self l.self;
  keeps : (system : SystemPlan) (before : List SeenRow) (course : Stretches system before)
      → KeptIn system before course l.initial.self
      → KeepsOn system before course (reverse (take l.place l.moment.rows) ++ before) l.initial.self.trace l.self
      l.initial.text.items l.text.items;
}
