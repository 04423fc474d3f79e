-- What is counted of rows, if what they cover is asked for.
use Rattle.std.proofs.Common.{◌≡◌, ◌∙◌, ◌||◌, ℕ, ◌<◌, ◌⊎◌, Bool, false, List, ◌++◌, IfSome, None, Option, is_some, length, get_or, reverse, take, sym, subst}
use Rattle.check_start.specs.Loads.{SystemPlan}
use Rattle.check_rows.specs.Moment.{IsMoment}
use Rattle.check_rows.specs.Row.{SeenRow}
use Rattle.check_coverage.specs.View.{Covers}
use Rattle.check_coverage.specs.declared.coverage.Coverage.{Coverage}
use Rattle.check_review.specs.declared.stop.Refusal.{Refusal}
use Rattle.check_review.specs.declared.stop.Refusal.TheVariants as refusal
use Rattle.check_review.specs.declared.stop.Unlawful.{Unlawful}
use Rattle.check_review.specs.declared.tally.Tally.{Tally}
use Rattle.check_review.specs.Covered.{CoversStop, HasCovered, IsCoveredBefore, IsCoveredFile, StopsCovering}
use Rattle.check_review.specs.Stretches.{Stretches, bins_in, watched_in}
use Rattle.check_review.specs.Times.{late_before}
use Rattle.check_review.specs.Verdict.{IsLateAfter, IsUnlawfulAfter, OfUnlawful, stop_of}
use Rattle.check_review.specs.View.{JudgeView, Judges, KeepsOn, KeptIn, wants}
use Rattle.check_review.proofs.Judging.{first_unlawful, still_in_time}
use Rattle.check_review.proofs.Keeping.{stops_at}
use Rattle.check_review.proofs.Stretching.{same_layout}

-- it is asked for as before
pub wants_same : (old new : Tally) → new.trace ≡ old.trace → is_some new.coverage ≡ is_some old.coverage
    → is_some new.waits ≡ is_some old.waits → wants new ≡ wants old
wants_same old new trace covered timed = λ i. trace i || (covered i || timed i)

-- what is kept of rows has what they cover
pub has_covered : (plan : SystemPlan) (crossed : List SeenRow) (course : Stretches plan crossed) (tally : Tally)
    → KeptIn plan crossed course tally → HasCovered plan crossed course tally
has_covered plan crossed course tally kept = record {
  layout = kept.tallied.keeps.suits.layout;
  same = same_layout plan crossed course.now course.ended course.are;
  covers = kept.tallied.covers;
}

-- the same after a beat that is refused
covered_still : (plan : SystemPlan) (crossed : List SeenRow) (course : Stretches plan crossed) (old new : Tally)
    → KeptIn plan crossed course old → new.watch.layout ≡ old.watch.layout → new.coverage ≡ old.coverage
    → HasCovered plan crossed course new
covered_still plan crossed course old new kept layout coverage = record {
  layout = layout ∙ kept.tallied.keeps.suits.layout;
  same = same_layout plan crossed course.now course.ended course.are;
  covers = subst (λ (c : Option Coverage). IfSome c (Covers course.now.plan (bins_in course.ended) (watched_in course.now)))
      (sym coverage) kept.tallied.covers;
}

-- the row among some at which a judge stops
pub covers_there : (plan : SystemPlan) (rows before : List SeenRow) (i : ℕ) (row : SeenRow)
    (course : Stretches plan (reverse (take i rows) ++ before)) (old new : Tally) (why : Refusal) → i < length rows
    → get_or rows i row ≡ row → OfUnlawful (λ _. row.is_reset ≡ false) why
    → OfUnlawful (λ found. IsUnlawfulAfter course.now row found ⊎ IsLateAfter plan.within course.now row found) why
    → KeptIn plan (reverse (take i rows) ++ before) course old → new.watch.layout ≡ old.watch.layout
    → OfUnlawful (λ _. new.coverage ≡ old.coverage) why → OfUnlawful (StopsCovering plan rows before new) why
covers_there plan rows before i row course old new (refusal.Unlawful found) inside here beat unlawful kept layout same = record {
  stops = stops_at plan rows before i row found inside here beat course unlawful;
  covered = covered_still plan (reverse (take i rows) ++ before) course old new kept layout same;
}
covers_there plan rows before i row course old new refusal.Memory inside here beat unlawful kept layout same = tt

-- a file with an unlawful row
pub covered_before : (plan : SystemPlan) (file : List SeenRow) (judge : JudgeView) (tally : Tally) (found : Unlawful)
    (judges : Judges plan file judge) → StopsCovering plan judge.moment.rows judges.before tally found
    → IsCoveredBefore plan file tally found
covered_before plan file judge tally found judges stops = record {
  first = first_unlawful plan file judge found judges stops.stops;
  holds = stops.covered;
}

-- a lawful file
pub covered_file : (plan : SystemPlan) (file : List SeenRow) (judge : JudgeView) (tally : Tally) (trace : Bool)
    (old new : List ℕ) (judges : Judges plan file judge)
    → IsMoment judge.moment → late_before judge.tally.waits judge.moment.rows ≡ None
    → KeepsOn plan judges.before judges.course (reverse judge.moment.rows ++ judges.before) trace tally old new
    → IsCoveredFile plan file tally
covered_file plan file judge tally trace old new judges moment none on = record {
  lawful = record {
    crossed = reverse judge.moment.rows ++ judges.before;
    crossing = judges.crossing;
    course = on.next;
    lawful = on.kept.tallied.keeps.lawful;
    in_time = still_in_time plan file judge judges moment none on.next;
  };
  holds = has_covered plan (reverse judge.moment.rows ++ judges.before) on.next tally on.kept;
}

-- a row of a later time, where those before it are refused
pub covers_so : (plan : SystemPlan) (file : List SeenRow) (tally : Tally) (why : Refusal)
    → OfUnlawful (IsCoveredBefore plan file tally) why → CoversStop plan file tally (stop_of why)
covers_so plan file tally (refusal.Unlawful found) covered = covered
covers_so plan file tally refusal.Memory covered = tt
