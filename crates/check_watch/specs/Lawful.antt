-- Which lists of sightings are lawful, the latest first: each beat is lawful after those before it, so a beginning of a
-- lawful list is lawful.
use Rattle.std.specs.Prelude.{◌≡◌, List, [], ◌∷◌}
use Rattle.check_watch.specs.declared.beat.Beat.{Beat}
use Rattle.check_watch.specs.declared.beat.Beat.TheVariants.{A, D}
use Rattle.check_watch.specs.declared.fault.Fault.{Fault}
use Rattle.check_watch.specs.declared.fault.Reason.{Reason}
use Rattle.check_watch.specs.declared.fault.Reason.TheVariants.{WrongReply}
use Rattle.check_watch.specs.declared.fault.StepError.{StepError}
use Rattle.check_watch.specs.declared.fault.StepError.TheVariants.{Unlawful, Memory}
use Rattle.check_watch.specs.declared.seen.Seen.{Seen}
use Rattle.check_watch.specs.Plan.{Plan, Sighting}
use Rattle.check_watch.specs.Scene.{Scene, SlaveMayNeed, seen}
use Rattle.check_watch.specs.Past.{scene_found, scene_in_group, state}
use Rattle.check_watch.specs.Allowed.{IsAllowedAsk, IsAllowedReply}
use Rattle.check_watch.specs.Faults.{IsFirstAskReason, IsFirstReplyReason, reason_of, IsWrongReply}

-- a beat of either channel is lawful at the link of a sighting if it finds this.
abbrev pub IsAllowedBeat : Plan → Scene → Sighting → Beat → Type 0
IsAllowedBeat plan here x (A beat) = IsAllowedAsk plan.layout x.link here beat x.known x.lanes
IsAllowedBeat plan here x (D beat) = IsAllowedReply plan.layout x.link here beat x.known x.lanes

-- the beat is lawful if it finds this
abbrev pub IsAllowed : Plan → Scene → Sighting → Type 0
IsAllowed plan here x = IsAllowedBeat plan here x x.beat

-- each beat is lawful by what it finds after those before it; no beats at all are lawful.
abbrev pub IsLawfulGroup : Plan → List Sighting → Type 0
IsLawfulGroup plan [] = Unit {0}
IsLawfulGroup plan (x ∷ past) = IsLawfulGroup plan past × IsAllowed plan (scene_in_group plan past x) x

-- ---- faults

-- the reason is the first one, in the order in which they are tried, why a beat of either channel is not lawful if it
-- finds this.
abbrev pub IsFirstReasonOf : Plan → Scene → Sighting → Beat → Reason → Type 0
IsFirstReasonOf plan here x (A beat) = IsFirstAskReason plan.layout x.link here beat x.known x.lanes
IsFirstReasonOf plan here x (D beat) = IsFirstReplyReason plan.layout x.link here beat x.known x.lanes

-- the reason is the first one, in the order in which they are tried, why the beat is not lawful after this past
abbrev pub IsFirstReason : Plan → List Sighting → Sighting → Reason → Type 0
IsFirstReason plan past x = IsFirstReasonOf plan (scene_in_group plan past x) x x.beat

-- of a wrong reply, the fault tells both replies
abbrev pub TellsReplies : Scene → Sighting → Beat → Fault → Type 0
TellsReplies here x (A beat) fault = Unit {0}
TellsReplies here x (D beat) fault =
    reason_of fault ≡ WrongReply → IsWrongReply here beat x.known x.lanes fault

-- the fault is the first one that the beat has after this past
pub record IsFirstGroupFault (plan : Plan) (past : List Sighting) (x : Sighting) (fault : Fault) : Type 0 where
  pub reason : IsFirstReason plan past x (reason_of fault)
  pub replies : TellsReplies (scene_in_group plan past x) x x.beat fault

-- what is said of the fault, if a step is refused for one
abbrev pub OfFault : (Fault → Type 0) → StepError → Type 0
OfFault Is (Unlawful fault) = Is fault
OfFault Is Memory = Unit {0}

-- ---- what a beat does

-- a port's slave may need memory with a beat after this past
abbrev pub GroupMayNeedMemory : Plan → List Sighting → Sighting → Type 0
GroupMayNeedMemory plan past x =
    SlaveMayNeed plan.layout x.link (scene_found plan (state plan past) x.link x.beat) x.beat x.lanes

-- what a beat ends after this past
abbrev pub seen_in_group : Plan → List Sighting → Sighting → Seen
seen_in_group plan past x = seen plan.layout x.link (scene_in_group plan past x) x.beat x.known x.lanes
