-- What a call for one beat more answers. It is this project's own.
use Rattle.std.specs.Prelude.{ℕ, ◌⊎◌, List, ◌∷◌, Option, Result}
use Rattle.check_watch.specs.declared.fault.StepError.{StepError}
use Rattle.check_watch.specs.declared.seen.Ended.{Ended}
use Rattle.check_watch.specs.declared.seen.Seen.{Seen}
use Rattle.check_watch.specs.Lawful as group_lawful
use Rattle.check_watch.specs.Plan.{Plan, Sighting}
use Rattle.check_watch.specs.Steps.{IsStepBy, IsTakeBy}
use Rattle.check_sides.specs.Lawful.{IsFirstFault, IsFirstRequest, IsLawful, MayNeedMemory, what_is_seen}
use Rattle.check_sides.specs.View.{Keeps, KeepsPort, PortView, View}

-- a step by this beat after this past, after which this is kept
abbrev pub IsStepAfter : Plan → List Sighting → Sighting → View → Result Seen StepError → Type 0
IsStepAfter plan past x new result =
    IsStepBy (IsLawful plan (x ∷ past)) (Keeps plan (x ∷ past) new) (what_is_seen plan past x) (IsFirstFault plan past x)
    (MayNeedMemory plan past x) result

-- the beat is taken after this past
abbrev pub IsTakeAfter : {E : Type 0} → Plan → List Sighting → Sighting → View → Result (Option Ended) E → Type 0
IsTakeAfter plan past x new result =
    IsTakeBy (IsLawful plan (x ∷ past)) (Keeps plan (x ∷ past) new) (what_is_seen plan past x) (MayNeedMemory plan past x) result

-- ---- at a port's link that is judged by itself

-- its slave may need memory with a beat, or a source for its room
abbrev pub MayNeedAlone : Plan → List Sighting → Sighting → Type 0
MayNeedAlone plan past x = group_lawful.GroupMayNeedMemory plan past x ⊎ IsFirstRequest past x.beat

-- a step by this beat after this past of the port's link, after which this is kept; the plan is that of the link.
abbrev pub IsAloneStep : Plan → ℕ → List Sighting → Sighting → PortView → Result Seen StepError → Type 0
IsAloneStep plan port past x new result =
    IsStepBy (group_lawful.IsLawfulGroup plan (x ∷ past)) (KeepsPort plan port (x ∷ past) new)
    (group_lawful.seen_in_group plan past x) (group_lawful.IsFirstGroupFault plan past x) (MayNeedAlone plan past x) result

-- the beat is taken after this past of the port's link; the plan is that of the link.
abbrev pub IsAloneTake : {E : Type 0} → Plan → ℕ → List Sighting → Sighting → PortView → Result (Option Ended) E → Type 0
IsAloneTake plan port past x new result =
    IsTakeBy (group_lawful.IsLawfulGroup plan (x ∷ past)) (KeepsPort plan port (x ∷ past) new)
    (group_lawful.seen_in_group plan past x) (MayNeedAlone plan past x) result
