-- What a lawful list of beats is, in three sentences.
use Rattle.std.specs.Prelude.{◌≡◌, ◌≢◌, ℕ, List, [], ◌∷◌, ◌++◌}
use Rattle.check_cells.specs.Pattern.{Pattern}
use Rattle.check_cells.specs.Sent.{Sent}
use Rattle.check_beats.specs.Form.{IsKnown}
use Rattle.check_beats.specs.Rules.{IsAlignedBy, IsAskMarkedBy, IsMarkedBy}
use Rattle.check_flight.specs.declared.order.Order.TheVariants.{Any}
use Rattle.check_flight.specs.PortSlave.{may_be_unknown}
use Rattle.check_watch.specs.declared.beat.Beat.{Beat}
use Rattle.check_watch.specs.declared.beat.Beat.TheVariants.{A, D}
use Rattle.check_watch.specs.declared.links.Links.TheVariants.{Both}
use Rattle.check_watch.specs.Allowed.{HasKnownLanes}
use Rattle.check_watch.specs.Plan.{Plan, Sighting, side_of, wide_of, bus_of}
use Rattle.check_watch_laws.specs.Crossed.{next_answered}
use Rattle.check_watch_laws.specs.Crossings.{MessagesCross}
use Rattle.check_watch_laws.specs.Memories.{IsDoneAt, order_at, port_for, reset_of}
use Rattle.check_watch_laws.specs.Messages.{AreMessages}
use Rattle.check_watch_laws.specs.Moments.{IsDueAt}

-- the beats are whole messages that come in turn; each port's replies fit what its slave may reply, which does one request
-- at a time, or if nobody knows when it does which, what is due then; and if both sides are watched, what ports are asked
-- and answer is what masters asked and are answered
pub record KeepsRules (plan : Plan) (past : List Sighting) : Type 0 where
  pub messages : AreMessages plan past
  pub memories : (port : ℕ) → order_at plan port ≢ Any
      → (history : List (Sent × Pattern)) × IsDoneAt plan past port history
  pub any_orders : (port : ℕ) → order_at plan port ≡ Any
      → (history : List (Sent × Pattern)) × IsDueAt plan past port history
  pub crossings : plan.layout.links ≡ Both → (wide : ℕ) → MessagesCross plan past wide

-- so it is at each moment: lists of sightings have the latest first, so what crossed up to a moment is an end of the
-- list
abbrev pub AlwaysKeepsRules : Plan → List Sighting → Type 0
AlwaysKeepsRules plan past = (later earlier : List Sighting) → later ++ earlier ≡ past → KeepsRules plan earlier

-- ---- what is asked of each beat alone

-- the address of a request is a multiple of its size, if that is asked; a beat is marked corrupt only if that is allowed; and
-- each lane of a beat that carries a byte was known: of a request, and of a reply if its port's slave may leave none unknown.
-- Which lanes of a reply carry one is told by the request that it answers
abbrev pub IsCompliant : Plan → List Sighting → Sighting → Beat → Type 0
IsCompliant plan past x (A beat) =
    IsAlignedBy plan.layout.rules beat × IsAskMarkedBy plan.layout.rules beat × IsKnown beat x.known
IsCompliant plan past x (D beat) =
    IsMarkedBy plan.layout.rules beat
    × ((sent : Sent)
    → next_answered plan (side_of x.link) (wide_of plan x.link beat.source) past
    ≡ record { link = x.link; sent = sent } ∷ []
    → HasKnownLanes (bus_of plan.layout x.link) (may_be_unknown (reset_of plan (port_for plan x.link sent.ask))) sent.ask
    beat x.known)

-- each of these beats is compliant by itself, after those before it.
abbrev pub AreCompliant : Plan → List Sighting → Type 0
AreCompliant plan [] = Unit {0}
AreCompliant plan (x ∷ past) = AreCompliant plan past × IsCompliant plan past x x.beat
