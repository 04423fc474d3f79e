-- What a call for one beat more answers. It is this project's own.
use Rattle.std.specs.Prelude.{List, ◌∷◌, Option, Result}
use Rattle.check_watch.specs.declared.fault.StepError.{StepError}
use Rattle.check_watch.specs.declared.seen.Ended.{Ended}
use Rattle.check_watch.specs.declared.seen.Seen.{Seen}
use Rattle.check_watch.specs.Plan.{Plan, Sighting}
use Rattle.check_watch.specs.Steps.{IsStepBy, IsTakeBy}
use Rattle.check_turns.specs.Lawful.{IsFirstFaultInOrder, IsLawfulInOrder, MayNeedMemory, what_is_seen}
use Rattle.check_turns.specs.View.{KeepsOrdered, OrderedView}

-- a step by this beat after this past, after which this is kept
abbrev pub IsStepInOrder : Plan → List Sighting → Sighting → OrderedView → Result Seen StepError → Type 0
IsStepInOrder plan past x new result =
    IsStepBy (IsLawfulInOrder plan (x ∷ past)) (KeepsOrdered plan (x ∷ past) new) (what_is_seen plan past x) (IsFirstFaultInOrder plan past x)
    (MayNeedMemory plan past x) result

-- the beat is taken after this past
abbrev pub IsTakeInOrder : {E : Type 0} → Plan → List Sighting → Sighting → OrderedView → Result (Option Ended) E → Type 0
IsTakeInOrder plan past x new result =
    IsTakeBy (IsLawfulInOrder plan (x ∷ past)) (KeepsOrdered plan (x ∷ past) new) (what_is_seen plan past x) (MayNeedMemory plan past x) result
