-- What the rows that were judged have covered, if it is asked for. Lists of what crossed have the latest first. This
-- project's own.
use Rattle.std.specs.Prelude.{◌≡◌, ℕ, Bool, true, false, List, ◌++◌, reverse, length, IfSome}
use Rattle.check_start.specs.Loads.{SystemPlan}
use Rattle.check_rows.specs.Row.{SeenRow}
use Rattle.check_bins.specs.Text.{TellsCoverage}
use Rattle.check_coverage.specs.View.{Covers}
use Rattle.check_review.specs.declared.tally.Tally.{Tally}
use Rattle.check_review.specs.declared.stop.Stop.{Stop}
use Rattle.check_review.specs.declared.stop.Stop.TheVariants as stop
use Rattle.check_review.specs.declared.stop.Unlawful.{Unlawful}
use Rattle.check_review.specs.Stretches.{Stretches, bins_in, stretches, watched_in}
use Rattle.check_review.specs.Verdict.{IsFirstUnlawful, IsLawfulFile, StopsAt}

-- of the rows that crossed, this was counted at the links that are watched
pub record HasCovered (plan : SystemPlan) (crossed : List SeenRow) (course : Stretches plan crossed) (tally : Tally)
    : Type 0 where
  pub layout : tally.watch.layout ≡ course.now.plan.layout
  pub same : course.now.plan.layout ≡ plan.begins.layout
  pub covers : IfSome tally.coverage (Covers course.now.plan (bins_in course.ended) (watched_in course.now))

-- the rows of a file are lawful, and something holds of them in the order in which they cross
pub record OfLawful (plan : SystemPlan) (file : List SeenRow)
    (Holds : (crossed : List SeenRow) → Stretches plan crossed → Type 0) : Type 0 where
  pub lawful : IsLawfulFile plan file
  pub holds : Holds lawful.crossed lawful.course

-- the row is the first one that makes a file unlawful, and something holds of those that cross before it
pub record OfBefore (plan : SystemPlan) (file : List SeenRow) (found : Unlawful)
    (Holds : (crossed : List SeenRow) → Stretches plan crossed → Type 0) : Type 0 where
  pub first : IsFirstUnlawful plan file found
  pub holds : Holds first.before first.course

-- this was counted of them
abbrev pub IsCoveredFile : SystemPlan → List SeenRow → Tally → Type 0
IsCoveredFile plan file tally = OfLawful plan file (λ crossed course. HasCovered plan crossed course tally)

-- this was counted of the rows before the first unlawful one
abbrev pub IsCoveredBefore : SystemPlan → List SeenRow → Tally → Unlawful → Type 0
IsCoveredBefore plan file tally found = OfBefore plan file found (λ crossed course. HasCovered plan crossed course tally)

-- what was counted if a row is not taken: if the rows before it are not lawful, what crosses before the first that is not
abbrev pub CoversStop : SystemPlan → List SeenRow → Tally → Stop → Type 0
CoversStop plan file tally (stop.Row fault) = Unit {0}
CoversStop plan file tally (stop.Beat found) = IsCoveredBefore plan file tally found
CoversStop plan file tally stop.Memory = Unit {0}

-- a text grew by the text of what the rows cover that crossed, at the links that are watched, if that is asked for
abbrev pub AppendsCoverage : Bool → (plan : SystemPlan) → (crossed : List SeenRow) → Stretches plan crossed → List ℕ → List ℕ
    → Type 0
AppendsCoverage true plan crossed course old new =
    TellsCoverage (length plan.begins.layout.ports) (bins_in (stretches course)) old new
AppendsCoverage false plan crossed course old new = new ≡ old

-- ---- for the proofs: the rows of a moment

-- the first unlawful row of rows that cross in this order, after those before, and what was counted of those before it
pub record StopsCovering (plan : SystemPlan) (rows before : List SeenRow) (tally : Tally) (found : Unlawful) : Type 0 where
  pub stops : StopsAt plan rows before found
  pub covered : HasCovered plan (reverse stops.done ++ before) stops.course tally
