-- Which lists of sightings are lawful, the latest first: each beat is lawful where it crossed, and replies come in order
-- where the system says so. This project's own.
use Rattle.std.specs.Prelude.{◌≡◌, ◌⊎◌, List}
use Rattle.tl_types.specs.Fault.{IsFirstOf}
use Rattle.check_watch.specs.declared.beat.Beat.{Beat}
use Rattle.check_watch.specs.declared.beat.Beat.TheVariants.{A, D}
use Rattle.check_watch.specs.declared.fault.Fault.{Fault}
use Rattle.check_watch.specs.declared.fault.Reason.{Reason}
use Rattle.check_watch.specs.declared.fault.Reason.TheVariants.{OutOfOrder}
use Rattle.check_watch.specs.Faults.{HasAskReason, HasReplyReason, reason_of, reason_rank}
use Rattle.check_watch.specs.Lawful.{TellsReplies}
use Rattle.check_watch.specs.Plan.{Plan, Sighting}
use Rattle.check_watch.specs.Scene.{Scene}
use Rattle.check_sides.specs.Groups.{plan_at}
use Rattle.check_sides.specs.Lawful as sides
pub use Rattle.check_sides.specs.Lawful.{MayNeedMemory, scene, what_is_seen}
use Rattle.check_turns.specs.Turns.{AreInTurn, IsInTurn}

-- a list is lawful: each beat where it crossed, and replies come in order where the system says so
pub record IsLawfulInOrder (plan : Plan) (past : List Sighting) : Type 0 where
  pub beats : sides.IsLawful plan past
  pub turns : AreInTurn plan past

-- a beat is not lawful for this reason where it crossed, by what it finds
abbrev pub HasReasonThere : Plan → Scene → Sighting → Beat → Reason → Type 0
HasReasonThere plan here x (A beat) = HasAskReason plan.layout x.link here beat x.known x.lanes
HasReasonThere plan here x (D beat) = HasReplyReason plan.layout x.link here beat x.known x.lanes

-- a beat is not lawful for this reason after this past: where it crossed, or since it begins a reply out of turn
abbrev pub HasReason : Plan → List Sighting → Sighting → Reason → Type 0
HasReason plan past x reason =
    HasReasonThere (plan_at plan x.link) (scene plan past x) x x.beat reason
    ⊎ ((reason ≡ OutOfOrder) × (IsInTurn plan past x → ⊥))

-- the fault is the first one, in the order in which they are tried, that the beat has after this past
pub record IsFirstFaultInOrder (plan : Plan) (past : List Sighting) (x : Sighting) (fault : Fault) : Type 0 where
  pub reason : IsFirstOf (HasReason plan past x) reason_rank (reason_of fault)
  pub replies : TellsReplies (scene plan past x) x x.beat fault
