-- Each lane of a lawful beat that carries a byte, and has to be known, was known; and a lawful beat of a reply is marked corrupt
-- only if that is allowed.
use Rattle.std.proofs.Common.{◌≡◌, ◌∙◌, ℕ, Bool, true, false, if◌then◌else◌, List, [], ◌∷◌, refl, ap, sym, subst, eqb-true}
use Rattle.std.specs.Prelude.{◌==◌}
use Rattle.check_cells.specs.Sent.{Sent}
use Rattle.check_beats.specs.State.{Under}
use Rattle.check_flight.specs.PortSlave.{accepting, may_be_unknown}
use Rattle.check_flight.proofs.Known.{stays_accepting, stays_answering}
use Rattle.check_watch.specs.declared.beat.Beat.{Beat}
use Rattle.check_watch.specs.declared.beat.Beat.TheVariants.{A, D}
use Rattle.check_watch.specs.declared.beat.Link.{Link}
use Rattle.check_watch.specs.Allowed.{HasKnownLanes, IsAnswer}
use Rattle.check_watch.specs.Lawful.{IsLawfulGroup, IsAllowed}
use Rattle.check_watch.specs.Past.{State, scene_found, scene_of, scene_in_group, state}
use Rattle.check_watch.specs.Plan.{Plan, Sighting, side_of, link_number, wide_of, bus_of}
use Rattle.check_watch.specs.Scene.{accepted, answered}
use Rattle.check_watch_laws.specs.Crossed.{AskSeen}
use Rattle.check_watch_laws.specs.Memories.{port_for, reset_of}
use Rattle.check_watch_laws.specs.Rules.{IsCompliant, AreCompliant}
use Rattle.check_watch_laws.proofs.Done.{reply_goes}
use Rattle.check_watch_laws.proofs.Flights.{in_step}
use Rattle.check_watch_laws.proofs.Links.{links_are}
use Rattle.check_watch_laws.proofs.Taking.{next_is}
use Rattle.check_watch_laws.proofs.Turns.{asked_at}

-- ---- whether lanes may be unknown stays as it is at reset

-- the slave that a beat finds, once the slave has answered
pub slave_found : (plan : Plan) (s : State) (link : Link) (beat : Beat)
    → may_be_unknown (scene_of plan s link beat).slave ≡ may_be_unknown (s.slaves (scene_of plan s link beat).port)
slave_found plan s link (A beat) = refl
slave_found plan s link (D beat) =
    let found = scene_found plan s link (D beat) in
    (stays_answering found.slave found.wide
    (answered plan.layout link found.port found.under.replying found.flight.turn)).lanes

pub unknown_stays : (plan : Plan) (past : List Sighting) (port : ℕ)
    → may_be_unknown ((state plan past).slaves port) ≡ may_be_unknown (reset_of plan port)
unknown_stays plan [] port = refl
unknown_stays plan (x ∷ past) port = go ((scene_in_group plan past x).port == port) refl (unknown_stays plan past port)
  where
    go : (here : Bool) → ((scene_in_group plan past x).port == port) ≡ here
        → may_be_unknown ((state plan past).slaves port) ≡ may_be_unknown (reset_of plan port)
        → may_be_unknown (if here then accepting (scene_in_group plan past x).slave (scene_in_group plan past x).wide
        (accepted plan.layout x.link (scene_in_group plan past x) x.beat x.lanes) else (state plan past).slaves port)
        ≡ may_be_unknown (reset_of plan port)
    go true is before =
        (stays_accepting (scene_in_group plan past x).slave (scene_in_group plan past x).wide
        (accepted plan.layout x.link (scene_in_group plan past x) x.beat x.lanes)).lanes
        ∙ slave_found plan (state plan past) x.link x.beat
        ∙ ap (λ p. may_be_unknown ((state plan past).slaves p)) (eqb-true (scene_in_group plan past x).port port is) ∙ before
    go false is before = before

-- ---- lanes

abbrev ask_in : Sent → List AskSeen → Sent
ask_in other [] = other
ask_in other (seen ∷ more) = seen.sent

pub all_compliant : (plan : Plan) (past : List Sighting) → IsLawfulGroup plan past → AreCompliant plan past
all_compliant plan [] lawful = tt
all_compliant plan (x ∷ past) lawful = (all_compliant plan past lawful.0, go x.beat lawful.1)
  where
    go : (beat : Beat) → IsAllowed plan (scene_of plan (state plan past) x.link beat)
        (record x { beat = beat }) → IsCompliant plan past (record x { beat = beat }) beat
    go (A beat) allowed = (allowed.aligned, allowed.marked, allowed.known_lanes)
    go (D beat) allowed = (
      allowed.marked,
      λ ask next.
          let s = state plan past in
          let wide = wide_of plan x.link beat.source in
          let turn = (s.flights (side_of x.link) wide).turn in
          let here = scene_of plan s x.link (D beat) in
          let found = asked_at (link_number x.link) turn
          (IsAnswer here.under.bus (may_be_unknown here.slave) beat x.known) allowed.answers in
          let also = next_is plan past x.link wide turn found.0 (in_step plan past lawful.0 (side_of x.link) wide) found.1
          in
          let same : found.0 ≡ ask = ap (λ l. ask_in ask l) (sym also ∙ next) in
          let unknown : may_be_unknown here.slave ≡ may_be_unknown (reset_of plan (port_for plan x.link found.0.ask)) =
          slave_found plan s x.link (D beat) ∙ unknown_stays plan past here.port
          ∙ ap (λ p. may_be_unknown (reset_of plan p)) (sym (reply_goes plan x.link turn (link_number x.link) beat found.0
          found.1)) in
          let bus : here.under.bus ≡ bus_of plan.layout x.link = ap (λ (u : Under). u.bus) (links_are plan past x.link) in
          subst (λ r. HasKnownLanes (bus_of plan.layout x.link)
          (may_be_unknown (reset_of plan (port_for plan x.link r.ask))) r.ask beat x.known) same
          (subst (λ b. HasKnownLanes (bus_of plan.layout x.link) b found.0.ask beat x.known) unknown
          (subst (λ n. HasKnownLanes n (may_be_unknown here.slave) found.0.ask beat x.known) bus found.2.lanes)),
    )
