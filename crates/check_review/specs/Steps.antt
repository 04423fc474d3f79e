-- What one row more does to a judge. Lists of what crossed have the latest first. This project's own.
use Rattle.std.specs.Prelude.{◌≡◌, ℕ, List, [], ◌∷◌, ◌++◌, Result, IfErr, OnOk, is_some}
use Rattle.check_sides.specs.Plan.{Plan}
use Rattle.check_rows.specs.Row.{SeenRow}
use Rattle.check_review.specs.declared.stop.Refusal.{Refusal}
use Rattle.check_review.specs.declared.stop.Refusal.TheVariants as refusal
use Rattle.check_review.specs.declared.stop.Stop.{Stop}
use Rattle.check_review.specs.declared.stop.Stop.TheVariants as stops
use Rattle.check_review.specs.declared.tally.Tally.{Tally}
use Rattle.check_review.specs.Covered.{CoversStop}
use Rattle.check_start.specs.Loads.{SystemPlan}
use Rattle.check_review.specs.Stretches.{Earlier}
use Rattle.check_review.specs.Order.{sightings_of}
use Rattle.check_review.specs.Told.{AppendsTold}
use Rattle.check_review.specs.Verdict.{IsStop, IsUnlawfulAfter, MayWantAfter, MayWantMemory, OfUnlawful}
use Rattle.check_review.specs.View.{HasTold, JudgeView, Judges, Tallied, TellsOn, TellsStop, is_traced, wants}

-- it judges the same crossbar, and is asked for the same
pub record SameAsked (old new : Tally) : Type 0 where
  pub layout : new.watch.layout ≡ old.watch.layout
  pub loads : new.loads ≡ old.loads
  pub trace : new.trace ≡ old.trace
  pub asked : is_some new.pending ≡ is_some old.pending
  pub covered : is_some new.coverage ≡ is_some old.coverage
  pub timed : is_some new.waits ≡ is_some old.waits

-- the beat of a row whose link is watched is judged after those before it, and what is told of it is appended to a text
pub record TellsRow (row : SeenRow) (old new : Tally) (text more : List ℕ) (result : Result Unit Refusal) : Type 0 where
  pub keeps : (earlier : Earlier) (plan : Plan) (before : List SeenRow) → Tallied earlier plan before old
      → OnOk result (Tallied earlier plan (row ∷ before) new)
  pub told : (earlier : Earlier) (plan : Plan) (before : List SeenRow) → Tallied earlier plan before old
      → OnOk result (AppendsTold old.trace plan (sightings_of plan.layout before)
      (sightings_of plan.layout (row ∷ before)) text more)
  pub fault : (earlier : Earlier) (plan : Plan) (before : List SeenRow) → Tallied earlier plan before old
      → IfErr result (OfUnlawful (IsUnlawfulAfter (record { plan = plan; rows = before }) row))
  pub quiet : IfErr result (OfUnlawful (λ _. more ≡ text))
  pub uncovered : IfErr result (OfUnlawful (λ _. new.coverage ≡ old.coverage))
  pub memory : (earlier : Earlier) (plan : Plan) (before : List SeenRow) → Tallied earlier plan before old
      → IfErr result (λ why. why ≡ refusal.Memory → MayWantAfter (wants old) (record { plan = plan; rows = before }) row)

-- a row is the next of a file, and what is told of the rows before it is appended to a text
pub record TakesRow (row : SeenRow) (old new : JudgeView) (text more : List ℕ) (result : Result Unit Stop) : Type 0 where
  pub keeps : (plan : SystemPlan) (file : List SeenRow) → Judges plan file old
      → OnOk result (Judges plan (file ++ row ∷ []) new)
  pub told : (plan : SystemPlan) (file : List SeenRow) (so_far : List ℕ) → HasTold plan file old so_far
      → OnOk result (TellsOn plan (file ++ row ∷ []) new so_far text more)
  pub stop : (plan : SystemPlan) (file : List SeenRow) → Judges plan file old → IfErr result (IsStop plan file row)
  pub stop_told : (plan : SystemPlan) (file : List SeenRow) (so_far : List ℕ) → HasTold plan file old so_far
      → IfErr result (TellsStop (is_traced old) plan file so_far text more)
  pub stop_covered : (plan : SystemPlan) (file : List SeenRow) → Judges plan file old
      → IfErr result (CoversStop plan file new.tally)
  pub memory : (plan : SystemPlan) (file : List SeenRow) → Judges plan file old
      → IfErr result (λ why. why ≡ stops.Memory → MayWantMemory (wants old.tally) plan file)
