-- If requests of a port take effect as they are accepted, what their replies have to fit is known from then on.
use Rattle.std.proofs.Common.{◌≡◌, ◌∙◌, ℕ, Bool, true, false, if◌then◌else◌, List, [], ◌∷◌, Option, Some, None, refl, ap, sym, subst}
use Rattle.check_cells.specs.Sent.{Sent}
use Rattle.check_beats.specs.State.{Under, ends_reply}
use Rattle.check_beats.specs.declared.beat.AskHead.{AskHead}
use Rattle.check_beats.specs.declared.beat.ReplyHead.{ReplyHead}
use Rattle.check_flight.specs.declared.answer.Answer.{Answer}
use Rattle.check_flight.specs.declared.order.Order.TheVariants.{Accept}
use Rattle.check_flight.specs.Flight.{Turn, idle, due_by}
use Rattle.check_flight.specs.Flight.Turn.{Idle, Asking, Asked}
use Rattle.check_flight.specs.PortSlave.{answer_of, due_accepted_by, due_accepting, due_answering}
use Rattle.check_watch.specs.declared.beat.Beat.{Beat}
use Rattle.check_watch.specs.declared.beat.Beat.TheVariants.{A, D}
use Rattle.check_watch.specs.declared.beat.Link.{Link}
use Rattle.check_watch.specs.Lawful.{IsLawfulGroup}
use Rattle.check_watch.specs.Past.{State, scene_found, scene_of, state, state_after}
use Rattle.check_watch.specs.Plan.{Plan, Sighting, LinkSide, side_of, link_number, wide_of, same_side, is_of, HasLink, IsGroupLink}
use Rattle.check_watch.specs.Scene.{ask_by, ask_if, turn_by, takes_effect, answered, flight_after}
use Rattle.check_watch.proofs.InFlight.{ask_at, reply_at, of_is}
use Rattle.check_watch_laws.specs.Crossed.{AreWatched}
use Rattle.check_watch_laws.specs.Memories.{side_for, port_for, order_at}
use Rattle.check_watch_laws.proofs.Done.{are_replayed, ended_goes, orders, port_own}
use Rattle.check_watch_laws.proofs.Taking.{takes}
use Rattle.check_watch_laws.proofs.Turns.{link_on, own_link, same_side-refl}

abbrev pub IsDueSoon : Plan → LinkSide → Turn → Option Answer → Type 0
IsDueSoon plan side Idle due = Unit {0}
IsDueSoon plan side (Asking n) due = Unit {0}
IsDueSoon plan side (Asked n ask) due =
    side ≡ side_for plan.layout (port_for plan (link_on side n) ask.ask)
    → order_at plan (port_for plan (link_on side n) ask.ask) ≡ Accept → (answer : Answer) × (due ≡ Some answer)

abbrev pub AreDueSoon : Plan → State → Type 0
AreDueSoon plan s =
    (side : LinkSide) (wide : ℕ) → IsDueSoon plan side (s.flights side wide).turn (s.flights side wide).due

stays : (plan : Plan) (side : LinkSide) (turn : Turn) (due late : Option Answer) → IsDueSoon plan side turn due
    → IsDueSoon plan side turn (due_by due late)
stays plan side Idle due late was = tt
stays plan side (Asking n) due late was = tt
stays plan side (Asked n ask) due None was = was
stays plan side (Asked n ask) due (Some answer) was = λ here accept. (answer, refl)

module _ (plan : Plan) (s : State) (same_order : (port : ℕ) → order_at plan port ≡ (s.slaves port).order)
    (dues : AreDueSoon plan s) (link : Link) (known : ℕ) (lanes : List ℕ)
    (has : HasLink plan.layout link) (watched : IsGroupLink plan.layout link) where
  pub ask_due_soon : (beat : AskHead) → AreDueSoon plan (state_after plan s (ask_at link known lanes beat))
  ask_due_soon beat side wide = go (is_of plan (ask_at link known lanes beat) side wide) refl
    where
      turn : Turn
      turn = (s.flights (side_of link) (wide_of plan link beat.source)).turn

      found : ℕ
      found = (scene_found plan s link (A beat)).port

      ended : Option Sent
      ended = ask_by (s.links (side_of link) (link_number link)) beat lanes

      seen : Bool
      seen = takes_effect plan.layout link found

      own : (o : Option Sent) → ended ≡ o
          → IsDueSoon plan (side_of link) (turn_by (link_number link) o)
          (due_accepting found (s.slaves found) (ask_if seen o))
      own None so = tt
      own (Some ask) so = λ here accept.
          let goes : port_for plan (link_on (side_of link) (link_number link)) ask.ask ≡ found =
          ap (λ l. port_for plan l ask.ask) (own_link link)
          ∙ ended_goes plan link turn (s.links (side_of link) (link_number link)) lanes beat ask so in
          let taken : seen ≡ true =
          takes plan.layout link found has watched (port_own plan link turn (A beat))
          ∙ ap (λ p. same_side (side_of link) (side_for plan.layout p)) (sym goes)
          ∙ ap (λ sd. same_side (side_of link) sd) (sym here) ∙ same_side-refl (side_of link) in
          let order : (s.slaves found).order ≡ Accept =
          sym (same_order found) ∙ ap (λ p. order_at plan p) (sym goes) ∙ accept in (
            answer_of found (s.slaves found) ask,
            ap (λ b. due_accepting found (s.slaves found) (ask_if b (Some ask))) taken
                ∙ ap (λ o. due_accepted_by o found (s.slaves found) ask) order,
          )

      go : (of : Bool) → is_of plan (ask_at link known lanes beat) side wide ≡ of
          → IsDueSoon plan side
          (if of then flight_after plan.layout link (scene_of plan s link (A beat)) (A beat) lanes
          else s.flights side wide).turn
          (if of then flight_after plan.layout link (scene_of plan s link (A beat)) (A beat) lanes
          else s.flights side wide).due
      go false is = dues side wide
      go true is =
          subst (λ sd. IsDueSoon plan sd (turn_by (link_number link) ended)
          (due_accepting found (s.slaves found) (ask_if seen ended)))
          (of_is plan (ask_at link known lanes beat) side wide is).0 (own ended refl)

  pub reply_due_soon : (beat : ReplyHead) → AreDueSoon plan (state_after plan s (reply_at link known lanes beat))
  reply_due_soon beat side wide = go (is_of plan (reply_at link known lanes beat) side wide) refl
    where
      under : Under
      under = s.links (side_of link) (link_number link)

      by_end : (ends : Bool)
          → IsDueSoon plan (side_of link)
          (if ends then idle else (scene_of plan s link (D beat)).flight).turn
          (if ends then idle else (scene_of plan s link (D beat)).flight).due
      by_end true = tt
      by_end false =
          let was = s.flights (side_of link) (wide_of plan link beat.source) in
          let found = scene_found plan s link (D beat) in
          stays plan (side_of link) was.turn was.due
          (due_answering found.port found.slave found.wide
          (answered plan.layout link found.port found.under.replying found.flight.turn))
          (dues (side_of link) (wide_of plan link beat.source))

      go : (of : Bool) → is_of plan (reply_at link known lanes beat) side wide ≡ of
          → IsDueSoon plan side
          (if of then flight_after plan.layout link (scene_of plan s link (D beat)) (D beat) lanes
          else s.flights side wide).turn
          (if of then flight_after plan.layout link (scene_of plan s link (D beat)) (D beat) lanes
          else s.flights side wide).due
      go false is = dues side wide
      go true is =
          subst (λ sd. IsDueSoon plan sd
          (flight_after plan.layout link (scene_of plan s link (D beat)) (D beat) lanes).turn
          (flight_after plan.layout link (scene_of plan s link (D beat)) (D beat) lanes).due)
          (of_is plan (reply_at link known lanes beat) side wide is).0
          (by_end (ends_reply under.bus under.replying beat))

pub are_due_soon : (plan : Plan) (past : List Sighting) → AreWatched plan.layout past → IsLawfulGroup plan past
    → AreDueSoon plan (state plan past)
are_due_soon plan [] watched lawful = λ side wide. tt
are_due_soon plan (x ∷ past) watched lawful = go (are_due_soon plan past watched.1 lawful.0) x.beat
  where
    same_order : (port : ℕ) → order_at plan port ≡ ((state plan past).slaves port).order
    same_order = orders plan (state plan past) past (are_replayed plan past watched.1 lawful.0)

    go : AreDueSoon plan (state plan past) → (beat : Beat)
        → AreDueSoon plan (state_after plan (state plan past) (record x { beat = beat }))
    go dues (A beat) = ask_due_soon plan (state plan past) same_order dues x.link x.known x.lanes
        watched.0.link watched.0.watched beat
    go dues (D beat) = reply_due_soon plan (state plan past) same_order dues x.link x.known x.lanes
        watched.0.link watched.0.watched beat
