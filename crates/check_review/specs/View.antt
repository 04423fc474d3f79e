-- What a judge knows of the rows that it has taken. Lists of what crossed have the latest first. This project's own.
use Rattle.std.specs.Prelude.{◌≡◌, ℕ, ◌+◌, ◌<◌, ◌≤◌, All, ◌%◌, ◌^◌, ◌||◌, Bool, false, List, [], ◌++◌, reverse, length, is_some, IfSome}
use Rattle.std.specs.List.{AllByRecursion}
pub use Rattle.check_sides.specs.Plan.{Layout, bus_of}
use Rattle.check_sides.specs.Plan.{Plan}
use Rattle.check_rows.specs.Moment.{Moment}
use Rattle.check_turns.specs.View.{KeepsOrdered}
use Rattle.check_rows.specs.Row.{SeenRow}
use Rattle.check_unanswered.specs.View.{Holds}
use Rattle.check_coverage.specs.View.{Covers}
use Rattle.check_review.specs.declared.tally.Tally.{Tally}
use Rattle.check_review.specs.declared.stop.Stop.{Stop}
use Rattle.check_review.specs.declared.stop.Stop.TheVariants as stop
use Rattle.check_start.specs.Loads.{AreLoadsOf, SystemPlan}
use Rattle.check_review.specs.Order.{IsCrossing, NeverFalls, sightings_of, watched}
use Rattle.check_review.specs.Stretches.{Stretches, Earlier, bins_in, stretches}
use Rattle.check_review.specs.Times.{StretchesInTime, waits_after}
use Rattle.check_review.specs.Count.{asked_in, asked_in_past, answered_in, answered_in_past}
use Rattle.check_review.specs.Told.{GrowsTold, IsToldOfAll}
use Rattle.check_review.specs.Verdict.{IsToldBefore}

-- the rows of the stretch that goes on are lawful, and this is kept and counted of them and of those before, with what they
-- cover if that is asked for
pub record Tallied (earlier : Earlier) (plan : Plan) (crossed : List SeenRow) (tally : Tally) : Type 0 where
  pub keeps : KeepsOrdered plan (sightings_of plan.layout crossed) tally.watch
  pub loads : AreLoadsOf earlier.system tally.loads
  pub requests : tally.requests ≡ asked_in_past (asked_in earlier.ended) plan (sightings_of plan.layout crossed)
  pub answered : tally.answered ≡ answered_in_past (answered_in earlier.ended) plan (sightings_of plan.layout crossed)
  pub covers : IfSome tally.coverage (Covers plan (bins_in earlier.ended) (watched plan.layout crossed))

-- and these of their requests are in flight, if it is asked which are left; and these wait, if there is a limit of time
pub record Kept (earlier : Earlier) (plan : Plan) (crossed : List SeenRow) (tally : Tally) : Type 0 where
  pub tallied : Tallied earlier plan crossed tally
  pub pending : IfSome tally.pending (Holds plan (watched plan.layout crossed))
  pub waits : tally.waits ≡ waits_after earlier.system.within plan (watched plan.layout crossed)

-- the same of all rows that crossed, by their stretches
abbrev pub KeptIn : (system : SystemPlan) (crossed : List SeenRow) → Stretches system crossed → Tally → Type 0
KeptIn system crossed course tally =
    Kept (record { system = system; ended = course.ended }) course.now.plan course.now.rows tally

-- rows crossed after those of a course: these are kept, and a text grew by what is told of them
pub record KeepsOn (system : SystemPlan) (before : List SeenRow) (course : Stretches system before) (crossed : List SeenRow)
    (trace : Bool) (tally : Tally) (old new : List ℕ) : Type 0 where
  pub next : Stretches system crossed
  pub kept : KeptIn system crossed next tally
  pub told : GrowsTold trace (stretches course) (stretches next) old new

-- replies are to be told, or what is covered, or there is a limit of time: then memory can be wanted with each row
abbrev pub wants : Tally → Bool
wants tally = tally.trace || (is_some tally.coverage || is_some tally.waits)

-- ---- the rows of the moment at hand

-- what is kept by a judge of rows: what is counted and told, the rows of the moment at hand, and how many were taken
pub record JudgeView : Type 0 where
  pub tally : Tally
  pub moment : Moment
  pub rows : ℕ

-- a row of a beat has the lanes of its link's bus
abbrev pub HasLanes : Layout → SeenRow → Type 0
HasLanes layout row = row.is_reset ≡ false → bus_of layout row.sighting.link ≤ length row.sighting.lanes

-- each row of the moment has; and a reset loads something or nothing into each slave
pub record IsJudge (judge : JudgeView) : Type 0 where
  pub lanes : All (HasLanes judge.tally.watch.layout) judge.moment.rows
  pub loads : length judge.tally.loads ≡ length judge.tally.watch.layout.ports + 1

-- the rows of a file so far are those of the moment at hand and some of earlier times, and those are kept
pub record Judges (plan : SystemPlan) (file : List SeenRow) (judge : JudgeView) : Type 0 where
  pub before : List SeenRow
  pub crossing : IsCrossing file (reverse judge.moment.rows ++ before)
  pub course : Stretches plan before
  pub now : AllByRecursion (λ row. row.time ≡ judge.moment.time) judge.moment.rows
  pub earlier : AllByRecursion (λ row. row.time < judge.moment.time) before
  pub begun : judge.moment.rows ≡ [] → judge.moment.time ≡ 0
  pub never_falls : NeverFalls file
  pub kept : KeptIn plan before course judge.tally
  pub in_time : StretchesInTime plan.within (stretches course)
  pub rows : judge.rows ≡ length file % 2 ^ 64

-- the judge is to say which requests are left
abbrev pub is_asked : JudgeView → Bool
is_asked judge = is_some judge.tally.pending

-- the judge is to count what the rows cover
abbrev pub is_covered : JudgeView → Bool
is_covered judge = is_some judge.tally.coverage

-- ---- what is told

-- the judge is to tell replies
abbrev pub is_traced : JudgeView → Bool
is_traced judge = judge.tally.trace

-- the rows of a file so far are taken, and this is told of those of earlier times than the moment at hand
pub record HasTold (plan : SystemPlan) (file : List SeenRow) (judge : JudgeView) (text : List ℕ) : Type 0 where
  pub judges : Judges plan file judge
  pub told : IsToldOfAll (is_traced judge) (stretches judges.course) text

-- a text grew by what is told after what was told so far, and so the judge of a file has told this
pub record TellsOn (plan : SystemPlan) (file : List SeenRow) (judge : JudgeView) (so_far old new : List ℕ) : Type 0 where
  pub more : List ℕ
  pub grown : new ≡ old ++ more
  pub told : HasTold plan file judge (so_far ++ more)

-- what is reported if a row is not taken: nothing if it may not stand there; if the rows before it are not lawful,
-- what crosses before the first that is not
abbrev pub TellsStop : Bool → SystemPlan → List SeenRow → List ℕ → List ℕ → List ℕ → Stop → Type 0
TellsStop trace plan file so_far old new (stop.Row fault) = new ≡ old
TellsStop trace plan file so_far old new (stop.Beat found) =
    (more : List ℕ) × (new ≡ old ++ more) × IsToldBefore trace plan file (so_far ++ more) found
TellsStop trace plan file so_far old new stop.Memory = Unit {0}
