-- What a call of a judge for one beat more answers, by what is true of that beat: whether the list with it is lawful, whether
-- that list is kept then, what the beat ends, which fault it has first, and whether it may need memory. It is this project's
-- own.
use Rattle.std.specs.Prelude.{◌≡◌, ◌↔◌, List, ◌∷◌, Option, Result, Err, IsOk, IsSome, IfErr, IfOk, IfSome, OnErr, OnOk, OnSome}
use Rattle.check_watch.specs.declared.fault.Fault.{Fault}
use Rattle.check_watch.specs.declared.fault.StepError.{StepError}
use Rattle.check_watch.specs.declared.fault.StepError.TheVariants.{Memory}
use Rattle.check_watch.specs.declared.seen.Ended.{Ended}
use Rattle.check_watch.specs.declared.seen.Seen.{Seen}
use Rattle.check_watch.specs.Lawful.{GroupMayNeedMemory, IsFirstGroupFault, IsLawfulGroup, OfFault, seen_in_group}
use Rattle.check_watch.specs.Plan.{Plan, Sighting}
use Rattle.check_watch.specs.Scene.{ended_by}
use Rattle.check_watch.specs.View.{GroupView, KeepsGroup}

-- a step tells what a lawful beat ends, and the first fault of another. Memory is refused to a lawful beat alone that may need
-- some
pub record IsStepBy (Lawful Kept : Type 0) (ends : Seen) (IsFirst : Fault → Type 0) (MayNeed : Type 0)
    (result : Result Seen StepError) : Type 0 where
  pub lawful : (result ≡ Err Memory → ⊥) → IsOk result ↔ Lawful
  pub keeps : OnOk result Kept
  pub seen : IfOk result (λ s. s ≡ ends)
  pub fault : IfErr result (OfFault IsFirst)
  pub memory : result ≡ Err Memory → Lawful
  pub needed : result ≡ Err Memory → MayNeed

-- a beat is taken if it is lawful, and it is told what it ends, without its reply. Memory is refused as by a step
pub record IsTakeBy {E : Type 0} (Lawful Kept : Type 0) (ends : Seen) (MayNeed : Type 0)
    (result : Result (Option Ended) E) : Type 0 where
  pub lawful : IfOk result (λ end. IsSome end ↔ Lawful)
  pub keeps : IfOk result (λ end. OnSome end Kept)
  pub ended : IfOk result (λ end. IfSome end (λ e. e ≡ ended_by ends))
  pub memory : OnErr result Lawful
  pub needed : OnErr result MayNeed

-- ---- of links that are judged together

-- a step by this beat after this past, after which this is kept
abbrev pub IsGroupStep : Plan → List Sighting → Sighting → GroupView → Result Seen StepError → Type 0
IsGroupStep plan past x new result =
    IsStepBy (IsLawfulGroup plan (x ∷ past)) (KeepsGroup plan (x ∷ past) new) (seen_in_group plan past x)
    (IsFirstGroupFault plan past x) (GroupMayNeedMemory plan past x) result

-- the beat is taken after this past
abbrev pub IsGroupTake : {E : Type 0} → Plan → List Sighting → Sighting → GroupView → Result (Option Ended) E → Type 0
IsGroupTake plan past x new result =
    IsTakeBy (IsLawfulGroup plan (x ∷ past)) (KeepsGroup plan (x ∷ past) new) (seen_in_group plan past x)
    (GroupMayNeedMemory plan past x) result
