-- What each port's slave holds is what the moments leave at which it accepts and answers requests.
use Rattle.std.proofs.Common.{◌≡◌, ◌∙◌, ℕ, Bool, true, false, if◌then◌else◌, List, [], ◌∷◌, ◌++◌, Option, Some, None, refl, ap, sym, eqb-true, append-nil}
use Rattle.std.specs.Prelude.{◌==◌, ◌&&◌}
use Rattle.check_cells.specs.Sent.{Sent}
use Rattle.check_beats.specs.State.{Under, ends_ask, ask_of}
use Rattle.check_beats.specs.declared.beat.AskHead.{AskHead}
use Rattle.check_beats.specs.declared.beat.ReplyHead.{ReplyHead}
use Rattle.check_flight.specs.Flight.{Turn, asked}
use Rattle.check_flight.specs.Flight.Turn.{Asked}
use Rattle.check_flight.specs.PortSlave.{PortSlave}
use Rattle.check_watch.specs.declared.beat.Beat.{Beat}
use Rattle.check_watch.specs.declared.beat.Beat.TheVariants.{A, D}
use Rattle.check_watch.specs.declared.beat.Link.{Link}
use Rattle.check_watch.specs.declared.beat.Link.TheVariants.{Master, Port}
use Rattle.check_watch.specs.Lawful.{IsLawfulGroup, IsAllowed}
use Rattle.check_watch.specs.Past.{State, port_of, scene_found, scene_of, state, state_after}
use Rattle.check_watch.specs.Plan.{Plan, Sighting, side_of, link_number, wide_of, HasLink, IsGroupLink}
use Rattle.check_watch.specs.Scene.{ask_by, ask_if, takes_effect, accepted, begins_reply, answered}
use Rattle.check_watch.proofs.InFlight.{ask_at, reply_at}
use Rattle.check_watch_laws.specs.Crossed.{AreWatched}
use Rattle.check_watch_laws.specs.Memories.{port_for, order_at, reset_of}
use Rattle.check_watch_laws.specs.Moments.{Act, RequestMoment, moments_with, moments, acting, slave_after_all}
use Rattle.check_watch_laws.specs.Moments.Act.{Accepts, Answers}
use Rattle.check_watch_laws.proofs.Flights.{AreInStep, in_step}
use Rattle.check_watch_laws.proofs.Links.{LinksAre, links_are, under_by}
use Rattle.check_watch_laws.proofs.Slaves.{acting_none, after_more, after_order}
use Rattle.check_watch_laws.proofs.Taking.{moment_if, ask_taken, reply_taken, next_is}
use Rattle.check_watch_laws.proofs.Turns.{asked_at}

-- ---- ports

pub port_own : (plan : Plan) (link : Link) (turn : Turn) (beat : Beat) (p : ℕ) → link ≡ Port p
    → port_of plan link turn beat ≡ p
port_own plan (Master m) turn beat p is = cc
port_own plan (Port q) turn beat p is = ap (λ l. link_number l) is

pub ask_goes : (plan : Plan) (link : Link) (turn : Turn) (beat : AskHead) (ask : Sent) → ask.ask.address ≡ beat.address
    → ask.ask.size ≡ beat.size → port_for plan link ask.ask ≡ port_of plan link turn (A beat)
ask_goes plan (Master m) turn beat ask address size = rw (address, size) refl
ask_goes plan (Port p) turn beat ask address size = refl

pub reply_goes : (plan : Plan) (link : Link) (turn : Turn) (n : ℕ) (beat : ReplyHead) (ask : Sent)
    → turn ≡ Asked n ask → port_for plan link ask.ask ≡ port_of plan link turn (D beat)
reply_goes plan link turn n beat ask is = go link ∙ ap (λ t. port_of plan link t (D beat)) (sym is)
  where
    go : (l : Link) → port_for plan l ask.ask ≡ port_of plan l (Asked n ask) (D beat)
    go (Master m) = refl
    go (Port p) = refl

-- the request that a beat ends goes to the port that the beat finds
pub ended_goes : (plan : Plan) (link : Link) (turn : Turn) (under : Under) (lanes : List ℕ) (beat : AskHead)
    (ask : Sent) → ask_by under beat lanes ≡ Some ask → port_for plan link ask.ask ≡ port_of plan link turn (A beat)
ended_goes plan link turn under lanes beat ask =
    there (ask_of under.bus under.asking beat lanes) refl refl (ends_ask under.bus under.asking beat)
  where
    there : (of : Sent) → of.ask.address ≡ beat.address → of.ask.size ≡ beat.size → (ends : Bool)
        → (if ends then Some of else None) ≡ Some ask → port_for plan link ask.ask ≡ port_of plan link turn (A beat)
    there of address size true e =
        let is_ask : of ≡ ask = cc in
        ask_goes plan link turn beat ask
        (ap (λ (r : Sent). r.ask.address) (sym is_ask) ∙ address) (ap (λ (r : Sent). r.ask.size) (sym is_ask) ∙ size)
    there of address size false e = cc

-- ---- the request that is accepted or answered with a beat

abbrev pub accepts_now : Plan → State → Link → List ℕ → AskHead → Option Sent
accepts_now plan s link lanes beat = accepted plan.layout link (scene_found plan s link (A beat)) (A beat) lanes

abbrev pub answers_now : Plan → State → Link → ReplyHead → Option Sent
answers_now plan s link beat =
    let found = scene_found plan s link (D beat) in
    answered plan.layout link found.port found.under.replying found.flight.turn

-- what each slave holds is what these moments leave
abbrev pub AreReplayed : Plan → State → List Sighting → Type 0
AreReplayed plan s past =
    (port : ℕ) → s.slaves port ≡ slave_after_all (reset_of plan port) (moments plan port past)

-- when requests take effect at a slave stays as it is
pub orders : (plan : Plan) (s : State) (past : List Sighting) → AreReplayed plan s past → (port : ℕ)
    → order_at plan port ≡ (s.slaves port).order
orders plan s past replayed port =
    sym (ap (λ (slave : PortSlave). slave.order) (replayed port)
    ∙ after_order (reset_of plan port) (moments plan port past))

module _ (plan : Plan) (s : State) (past : List Sighting) (linked : LinksAre plan s past) (link : Link) (known : ℕ)
    (lanes : List ℕ) (has : HasLink plan.layout link) (watched : IsGroupLink plan.layout link) where
  pub ask_does : (beat : AskHead) (port : ℕ)
      → moments_with plan port past (ask_at link known lanes beat) (A beat)
      ≡ (if (scene_found plan s link (A beat)).port == port then moment_if Accepts (wide_of plan link beat.source)
      (accepts_now plan s link lanes beat) else [])
  ask_does beat port =
      let wide = wide_of plan link beat.source in
      let turn = (s.flights (side_of link) wide).turn in
      let found = (scene_found plan s link (A beat)).port in
      let under = under_by plan.layout link past in
      let Taken : Under → List RequestMoment = λ u. moment_if Accepts wide
      (ask_if (takes_effect plan.layout link found) (ask_by u beat lanes)) in
      ask_taken plan link wide port found has watched
      (port_own plan link turn (A beat)) past known lanes beat
      (ended_goes plan link turn under lanes beat)
      ∙ ap (λ (u : Under). if found == port then Taken u else []) (sym (linked link))

  pub reply_does : AreInStep plan s past → (beat : ReplyHead) (ask : Sent)
      → (s.flights (side_of link) (wide_of plan link beat.source)).turn ≡ Asked (link_number link) ask → (port : ℕ)
      → moments_with plan port past (reply_at link known lanes beat) (D beat)
      ≡ (if (scene_found plan s link (D beat)).port == port then moment_if Answers (wide_of plan link beat.source)
      (answers_now plan s link beat) else [])
  reply_does steps beat ask in_flight port =
      let wide = wide_of plan link beat.source in
      let turn = (s.flights (side_of link) wide).turn in
      let found = (scene_found plan s link (D beat)).port in
      let under = under_by plan.layout link past in
      let Taken : Under → Option Sent → List RequestMoment = λ u o. moment_if Answers wide
      (ask_if (takes_effect plan.layout link found && begins_reply u.replying) o) in
      reply_taken plan link wide port found has watched
      (port_own plan link turn (D beat)) past known lanes beat ask
      (reply_goes plan link turn (link_number link) beat ask in_flight)
      (next_is plan past link wide turn ask (steps (side_of link) wide) in_flight)
      ∙ ap (λ (u : Under). if found == port then Taken u (Some ask) else []) (sym (linked link))
      ∙ ap (λ t. if found == port then Taken (s.links (side_of link) (link_number link)) (asked t) else []) (sym in_flight)

-- ---- slaves

-- what a slave sees with a beat is what it does
slave_done : (act : Act) (slaves : ℕ → PortSlave) (reset : PortSlave) (before : List RequestMoment) (port found wide : ℕ)
    (done : Option Sent) → slaves port ≡ slave_after_all reset before
    → (if found == port then acting act (slaves found) wide done else slaves port) ≡ slave_after_all reset
    (before ++ (if found == port then moment_if act wide done else []))
slave_done act slaves reset before port found wide done is = go (found == port) refl
  where
    go : (here : Bool) → (found == port) ≡ here
        → (if here then acting act (slaves found) wide done else slaves port) ≡ slave_after_all reset
        (before ++ (if here then moment_if act wide done else []))
    go true here = there done
      where
        slave_is : slaves found ≡ slave_after_all reset before
        slave_is = ap (λ p. slaves p) (eqb-true found port here) ∙ is

        there : (done : Option Sent) → acting act (slaves found) wide done ≡ slave_after_all reset
            (before ++ moment_if act wide done)
        there None = acting_none act (slaves found) wide ∙ slave_is
            ∙ ap (λ l. slave_after_all reset l) (sym (append-nil before))
        there (Some ask) = ap (λ m. acting act m wide (Some ask)) slave_is
            ∙ sym (after_more reset before (record { act = act; wide = wide; sent = ask }))
    go false here = is ∙ ap (λ l. slave_after_all reset l) (sym (append-nil before))

pub are_replayed : (plan : Plan) (past : List Sighting) → AreWatched plan.layout past → IsLawfulGroup plan past
    → AreReplayed plan (state plan past) past
are_replayed plan [] watched lawful = λ port. refl
are_replayed plan (x ∷ past) watched lawful = go (are_replayed plan past watched.1 lawful.0) x.beat lawful.1
  where
    go : AreReplayed plan (state plan past) past → (beat : Beat)
        → IsAllowed plan (scene_of plan (state plan past) x.link beat) (record x { beat = beat })
        → AreReplayed plan (state_after plan (state plan past) (record x { beat = beat }))
        (record x { beat = beat } ∷ past)
    go replayed (A beat) allowed port =
        let s = state plan past in
        slave_done Accepts s.slaves (reset_of plan port) (moments plan port past) port
        (scene_found plan s x.link (A beat)).port (wide_of plan x.link beat.source)
        (accepts_now plan s x.link x.lanes beat) (replayed port)
        ∙ ap (λ l. slave_after_all (reset_of plan port) (moments plan port past ++ l))
        (sym (ask_does plan s past (links_are plan past) x.link x.known x.lanes
        watched.0.link watched.0.watched beat port))
    go replayed (D beat) allowed port =
        let s = state plan past in
        let found = asked_at (link_number x.link) (s.flights (side_of x.link)
        (wide_of plan x.link beat.source)).turn _ allowed.answers in
        slave_done Answers s.slaves (reset_of plan port) (moments plan port past) port
        (scene_found plan s x.link (D beat)).port (wide_of plan x.link beat.source)
        (answers_now plan s x.link beat) (replayed port)
        ∙ ap (λ l. slave_after_all (reset_of plan port) (moments plan port past ++ l))
        (sym (reply_does plan s past (links_are plan past) x.link x.known x.lanes
        watched.0.link watched.0.watched (in_step plan past lawful.0) beat found.0 found.1 port))
