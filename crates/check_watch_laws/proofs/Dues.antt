-- A reply that is due has the source of its request; and if it is due as its request is answered, and not before, it is
-- under way.
use Rattle.std.proofs.Common.{◌≡◌, ◌∙◌, ℕ, ◌+◌, Bool, true, false, if◌then◌else◌, List, [], ◌∷◌, ◌++◌, replicate, Option, Some, None, unwrap_or, refl, ap, sym, subst}
use Rattle.std.specs.Prelude.{◌&&◌}
use Rattle.check_cells.specs.Sent.{Sent}
use Rattle.check_beats.specs.Message.{seen_cells as seen_bytes, is_spoiled}
use Rattle.check_beats.specs.State.{Under, ReplyBegun, first_reply, ends_reply, replied_beats, replied_bytes, replied_spoiled}
use Rattle.check_beats.specs.declared.beat.AskHead.{AskHead}
use Rattle.check_beats.specs.declared.beat.ReplyHead.{ReplyHead}
use Rattle.check_contests.specs.declared.accepted.Accepted.{Accepted}
use Rattle.check_contests.specs.Contests.{kept_of}
use Rattle.check_flight.specs.declared.answer.Answer.{Answer}
use Rattle.check_flight.specs.declared.order.Order.{Order}
use Rattle.check_flight.specs.declared.order.Order.TheVariants.{Accept, Reply, Any}
use Rattle.check_flight.specs.Flight.{Turn, Flight, idle, asked, due_by}
use Rattle.check_flight.specs.Flight.Turn.{Idle, Asking, Asked}
use Rattle.check_flight.specs.Order.{is_due_at_reply}
use Rattle.check_flight.specs.PortSlave.{PortSlave, answer_of_kept, due_accepted_by, due_accepting, due_answered_by, due_answering}
use Rattle.check_watch.specs.declared.beat.Beat.{Beat}
use Rattle.check_watch.specs.declared.beat.Beat.TheVariants.{A, D}
use Rattle.check_watch.specs.declared.beat.Link.{Link}
use Rattle.check_watch.specs.Allowed.{IsAllowedReply}
use Rattle.check_watch.specs.Lawful.{IsLawfulGroup, IsAllowed}
use Rattle.check_watch.specs.Past.{State, scene_found, scene_of, state, state_after}
use Rattle.check_watch.specs.Plan.{Plan, Sighting, LinkSide, side_of, link_number, wide_of, is_link, is_of}
use Rattle.check_watch.specs.Plan.LinkSide.{AtMasters, AtPorts}
use Rattle.check_watch.specs.Scene.{ask_by, ask_if, turn_by, takes_effect, begins_reply, flight_after, under_after}
use Rattle.check_watch.proofs.InFlight.{ask_at, reply_at, of_is, of_own}
use Rattle.check_watch_laws.specs.Crossed.{AreWatched}
use Rattle.check_watch_laws.specs.Memories.{port_for, order_at}
use Rattle.check_watch_laws.proofs.Done.{are_replayed, ended_goes, orders}
use Rattle.check_watch_laws.proofs.Links.{same_link}
use Rattle.check_watch_laws.proofs.Slaves.{reply_source}
use Rattle.check_watch_laws.proofs.Turns.{asked_at, link_on, own_link, own_is, true_or_false}
use Rattle.check_watch_laws.proofs.UnderWay.{first_source}

abbrev pub IsSourced : Turn → Option Answer → Type 0
IsSourced Idle due = Unit {0}
IsSourced (Asking n) due = Unit {0}
IsSourced (Asked n ask) None = Unit {0}
IsSourced (Asked n ask) (Some answer) = answer.reply.source ≡ ask.ask.source

-- a reply of this wide source is under way at the link
abbrev pub IsReplying : Plan → State → ℕ → Link → Type 0
IsReplying plan s wide link =
    (begun : ReplyBegun) × ((s.links (side_of link) (link_number link)).replying ≡ Some begun)
    × (wide_of plan link begun.first.source ≡ wide)

abbrev pub HasBegun : Plan → State → LinkSide → ℕ → Turn → Option Answer → Type 0
HasBegun plan s side wide Idle due = Unit {0}
HasBegun plan s side wide (Asking n) due = Unit {0}
HasBegun plan s side wide (Asked n ask) None = Unit {0}
HasBegun plan s side wide (Asked n ask) (Some answer) =
    is_due_at_reply (order_at plan (port_for plan (link_on side n) ask.ask)) ≡ true
    → IsReplying plan s wide (link_on side n)

pub record IsDue (plan : Plan) (s : State) (side : LinkSide) (wide : ℕ) (flight : Flight) : Type 0 where
  pub sourced : IsSourced flight.turn flight.due
  pub begun : HasBegun plan s side wide flight.turn flight.due

abbrev pub AreDue : Plan → State → Type 0
AreDue plan s = (side : LinkSide) (wide : ℕ) → IsDue plan s side wide (s.flights side wide)

-- ---- as a request ends

accepted_sourced : (n port : ℕ) (slave : PortSlave) (ask : Sent) (order : Order)
    → IsSourced (Asked n ask) (due_accepted_by order port slave ask)
accepted_sourced n port slave ask Accept = reply_source slave.kept ask
accepted_sourced n port slave ask Reply = tt
accepted_sourced n port slave ask Any = tt

new_sourced : (n port : ℕ) (slave : PortSlave) (effect : Bool) (ended : Option Sent)
    → IsSourced (turn_by n ended) (due_accepting port slave (ask_if effect ended))
new_sourced n port slave effect None = tt
new_sourced n port slave true (Some ask) = accepted_sourced n port slave ask slave.order
new_sourced n port slave false (Some ask) = tt

-- if a reply is due as its request is accepted, it is so before the request is answered
accepted_begun : (plan : Plan) (s : State) (side : LinkSide) (wide n port : ℕ) (slave : PortSlave) (ask : Sent)
    (order : Order) → order ≡ order_at plan (port_for plan (link_on side n) ask.ask)
    → HasBegun plan s side wide (Asked n ask) (due_accepted_by order port slave ask)
accepted_begun plan s side wide n port slave ask Accept is =
    λ late. absurd (true_or_false (is_due_at_reply (order_at plan (port_for plan (link_on side n) ask.ask))) late
    (ap is_due_at_reply (sym is)))
accepted_begun plan s side wide n port slave ask Reply is = tt
accepted_begun plan s side wide n port slave ask Any is = tt

new_begun : (plan : Plan) (s : State) (side : LinkSide) (wide n port : ℕ) (slave : PortSlave) (effect : Bool)
    (ended : Option Sent)
    → ((ask : Sent) → ended ≡ Some ask → slave.order ≡ order_at plan (port_for plan (link_on side n) ask.ask))
    → HasBegun plan s side wide (turn_by n ended) (due_accepting port slave (ask_if effect ended))
new_begun plan s side wide n port slave effect None is = tt
new_begun plan s side wide n port slave true (Some ask) is =
    accepted_begun plan s side wide n port slave ask slave.order (is ask refl)
new_begun plan s side wide n port slave false (Some ask) is = tt

-- ---- as a reply begins or goes on

answered_sourced : (port wide : ℕ) (slave : PortSlave) (n : ℕ) (ask : Sent) (due : Option Answer) (order : Order)
    → IsSourced (Asked n ask) due → IsSourced (Asked n ask) (due_by due (due_answered_by order port slave wide ask))
answered_sourced port wide slave n ask due Accept was = was
answered_sourced port wide slave n ask due Reply was = reply_source slave.kept ask
answered_sourced port wide slave n ask due Any was = go (kept_of slave.contests wide)
  where
    go : (kept : Option Accepted) → IsSourced (Asked n ask) (due_by due (answer_of_kept port ask kept))
    go None = was
    go (Some entry) = refl

pub late_sourced : (port wide : ℕ) (slave : PortSlave) (effect : Bool) (n : ℕ) (ask : Sent) (due : Option Answer)
    → IsSourced (Asked n ask) due
    → IsSourced (Asked n ask) (due_by due (due_answering port slave wide (ask_if effect (Some ask))))
late_sourced port wide slave true n ask due was = answered_sourced port wide slave n ask due slave.order was
late_sourced port wide slave false n ask due was = was

pub side_on : (side : LinkSide) (n : ℕ) → side_of (link_on side n) ≡ side
side_on AtMasters n = refl
side_on AtPorts n = refl

-- the facts of a turn and what is due, in another state
begun_by : (plan : Plan) (s later : State) (side : LinkSide) (wide : ℕ) (turn : Turn) (due : Option Answer)
    → ((n : ℕ) (ask : Sent) → turn ≡ Asked n ask → IsReplying plan s wide (link_on side n)
    → IsReplying plan later wide (link_on side n))
    → HasBegun plan s side wide turn due → HasBegun plan later side wide turn due
begun_by plan s later side wide Idle due keeps was = tt
begun_by plan s later side wide (Asking n) due keeps was = tt
begun_by plan s later side wide (Asked n ask) None keeps was = tt
begun_by plan s later side wide (Asked n ask) (Some answer) keeps was = λ late. keeps n ask refl (was late)

module _ (plan : Plan) (s : State) (same_order : (port : ℕ) → order_at plan port ≡ (s.slaves port).order)
    (dues : AreDue plan s) (link : Link) (known : ℕ) (lanes : List ℕ) where
  -- a beat of a request leaves the replies that are under way
  keeps_replying : (beat : AskHead) (wide : ℕ) (at : Link) → IsReplying plan s wide at
      → IsReplying plan (state_after plan s (ask_at link known lanes beat)) wide at
  keeps_replying beat wide at was = go (is_link link (side_of at) (link_number at)) refl
    where
      go : (here : Bool) → is_link link (side_of at) (link_number at) ≡ here
          → (begun : ReplyBegun)
          × ((if here then under_after (s.links (side_of link) (link_number link)) (A beat) known lanes
          else s.links (side_of at) (link_number at)).replying ≡ Some begun)
          × (wide_of plan at begun.first.source ≡ wide)
      go true here = (
        was.0,
        ap (λ (l : Link). (s.links (side_of l) (link_number l)).replying) (same_link link at here) ∙ was.1,
        was.2,
      )
      go false here = was

  pub ask_due : (beat : AskHead) → AreDue plan (state_after plan s (ask_at link known lanes beat))
  ask_due beat side wide = go (is_of plan (ask_at link known lanes beat) side wide) refl
    where
      later : State
      later = state_after plan s (ask_at link known lanes beat)

      go : (of : Bool) → is_of plan (ask_at link known lanes beat) side wide ≡ of
          → IsDue plan (state_after plan s (ask_at link known lanes beat)) side wide
          (if of then flight_after plan.layout link (scene_of plan s link (A beat))
          (A beat) lanes else s.flights side wide)
      go true is =
          let found = scene_of plan s link (A beat) in
          let ended = ask_by found.under beat lanes in
          let on : link_on side (link_number link) ≡ link =
          ap (λ sd. link_on sd (link_number link)) (sym (of_is plan (ask_at link known lanes beat) side wide is).0)
          ∙ own_link link in
          let goes_by : (ask : Sent) → ended ≡ Some ask
          → port_for plan (link_on side (link_number link)) ask.ask ≡ found.port =
          λ ask so. ap (λ l. port_for plan l ask.ask) on
          ∙ ended_goes plan link (s.flights (side_of link) (wide_of plan link beat.source)).turn found.under lanes beat ask
          so in
          record {
            sourced = new_sourced (link_number link) found.port found.slave
                (takes_effect plan.layout link found.port) ended;
            begun = new_begun plan later side wide (link_number link) found.port found.slave
                (takes_effect plan.layout link found.port) ended
                (λ ask so. sym (same_order found.port) ∙ ap (λ p. order_at plan p) (sym (goes_by ask so)));
          }
      go false is =
          let was = dues side wide in
          record {
            sourced = was.sourced;
            begun = begun_by plan s later side wide (s.flights side wide).turn
                (s.flights side wide).due (λ n ask at. keeps_replying beat wide (link_on side n)) was.begun;
          }

  module _ (beat : ReplyHead) (allowed : IsAllowedReply plan.layout link
      (scene_of plan s link (D beat)) beat known lanes) where
    abbrev after : State
    after = state_after plan s (reply_at link known lanes beat)

    abbrev under : Under
    under = s.links (side_of link) (link_number link)

    -- its own reply is under way, if it does not end it
    own_replying : ends_reply under.bus under.replying beat ≡ false
        → IsReplying plan after (wide_of plan link beat.source) link
    own_replying goes_on =
        let begun : ReplyBegun = record {
          first = unwrap_or (first_reply under.replying) beat;
          beats = replied_beats under.replying + 1;
          bytes = replied_bytes under.replying ++ seen_bytes beat known lanes 0 under.bus;
          spoiled = replied_spoiled under.replying ++ replicate under.bus (is_spoiled beat);
        } in (
          begun,
          ap (λ (h : Bool). (if h then under_after under (D beat) known lanes else under).replying) (own_is link)
              ∙ ap (λ (b : Bool). if b then None else Some begun) goes_on,
          ap (λ n. wide_of plan link n) (first_source under.replying beat allowed.fits.same),
        )

    -- a reply of another source, or at another link, stays under way
    other_replying : (side : LinkSide) (wide n : ℕ) → is_of plan (reply_at link known lanes beat) side wide ≡ false
        → IsReplying plan s wide (link_on side n) → IsReplying plan after wide (link_on side n)
    other_replying side wide n other was =
        go (is_link link (side_of (link_on side n)) (link_number (link_on side n))) refl
      where
        go : (here : Bool) → is_link link (side_of (link_on side n)) (link_number (link_on side n)) ≡ here
            → (begun : ReplyBegun)
            × ((if here then under_after (s.links (side_of link) (link_number link)) (D beat) known lanes
            else s.links (side_of (link_on side n)) (link_number (link_on side n))).replying ≡ Some begun)
            × (wide_of plan (link_on side n) begun.first.source ≡ wide)
        go true here =
            let is : link ≡ link_on side n = same_link link (link_on side n) here in
            let under_way : (s.links (side_of link) (link_number link)).replying ≡ Some was.0 =
            ap (λ (l : Link). (s.links (side_of l) (link_number l)).replying) is ∙ was.1 in
            let source : beat.source ≡ was.0.first.source =
            (allowed.fits.same was.0.first (ap first_reply under_way)).source in
            let wide_is : wide_of plan link beat.source ≡ wide =
            ap (λ k. wide_of plan link k) source ∙ ap (λ l. wide_of plan l was.0.first.source) is ∙ was.2 in
            let side_is : side_of link ≡ side = ap (λ l. side_of l) is ∙ side_on side n in
            let mine : is_of plan (reply_at link known lanes beat) side wide ≡ true =
            subst (λ sd. is_of plan (reply_at link known lanes beat) sd wide ≡ true) side_is
            (subst (λ w. is_of plan (reply_at link known lanes beat) (side_of link) w ≡ true) wide_is
            (of_own plan (reply_at link known lanes beat))) in
            absurd (true_or_false (is_of plan (reply_at link known lanes beat) side wide) mine other)
        go false here = was

    pub reply_due : AreDue plan (state_after plan s (reply_at link known lanes beat))
    reply_due side wide = go (is_of plan (reply_at link known lanes beat) side wide) refl
      where
        begun_here : (ask : Sent) (due : Option Answer) → ends_reply under.bus under.replying beat ≡ false
            → HasBegun plan after (side_of link) (wide_of plan link beat.source)
            (Asked (link_number link) ask) due
        begun_here ask None goes_on = tt
        begun_here ask (Some answer) goes_on =
            λ late. subst (λ l. IsReplying plan after (wide_of plan link beat.source) l)
            (sym (own_link link)) (own_replying goes_on)

        own : (ends : Bool) → ends_reply under.bus under.replying beat ≡ ends
            → IsDue plan after (side_of link) (wide_of plan link beat.source)
            (if ends then idle else (scene_of plan s link (D beat)).flight)
        own true is = record { sourced = tt; begun = tt }
        own false is =
            let was = s.flights (side_of link) (wide_of plan link beat.source) in
            let asked_is = asked_at (link_number link) was.turn _ allowed.answers in
            let found = scene_found plan s link (D beat) in
            let effect : Bool = takes_effect plan.layout link found.port && begins_reply found.under.replying in
            let before : IsSourced (Asked (link_number link) asked_is.0) was.due =
            subst (λ t. IsSourced t was.due) asked_is.1
            (dues (side_of link) (wide_of plan link beat.source)).sourced in
            record {
              sourced = subst (λ t. IsSourced t (due_by was.due
                  (due_answering found.port found.slave found.wide (ask_if effect (asked t))))) (sym asked_is.1)
                  (late_sourced found.port found.wide found.slave effect (link_number link) asked_is.0 was.due before);
              begun = subst (λ t. HasBegun plan after (side_of link)
                  (wide_of plan link beat.source) t (due_by was.due
                  (due_answering found.port found.slave found.wide (ask_if effect (asked t))))) (sym asked_is.1)
                  (begun_here asked_is.0 (due_by was.due (due_answering found.port found.slave found.wide
                  (ask_if effect (Some asked_is.0)))) is);
            }

        go : (of : Bool) → is_of plan (reply_at link known lanes beat) side wide ≡ of
            → IsDue plan (state_after plan s (reply_at link known lanes beat)) side wide
            (if of then flight_after plan.layout link (scene_of plan s link (D beat))
            (D beat) lanes else s.flights side wide)
        go true is =
            let both = of_is plan (reply_at link known lanes beat) side wide is in
            let P : LinkSide → ℕ → Type 0 =
            λ sd w. IsDue plan after sd w (flight_after plan.layout link (scene_of plan s link (D beat)) (D beat) lanes) in
            subst (λ sd. P sd wide) both.0 (subst (λ w. P (side_of link) w) both.1
            (own (ends_reply under.bus under.replying beat) refl))
        go false is =
            let was = dues side wide in
            record {
              sourced = was.sourced;
              begun = begun_by plan s after side wide (s.flights side wide).turn
                  (s.flights side wide).due (λ n ask at. other_replying side wide n is) was.begun;
            }

pub are_due : (plan : Plan) (past : List Sighting) → AreWatched plan.layout past → IsLawfulGroup plan past
    → AreDue plan (state plan past)
are_due plan [] watched lawful = λ side wide. record { sourced = tt; begun = tt }
are_due plan (x ∷ past) watched lawful = go (are_due plan past watched.1 lawful.0) x.beat lawful.1
  where
    same_order : (port : ℕ) → order_at plan port ≡ ((state plan past).slaves port).order
    same_order = orders plan (state plan past) past (are_replayed plan past watched.1 lawful.0)

    go : AreDue plan (state plan past) → (beat : Beat)
        → IsAllowed plan (scene_of plan (state plan past) x.link beat) (record x { beat = beat })
        → AreDue plan (state_after plan (state plan past) (record x { beat = beat }))
    go dues (A beat) allowed = ask_due plan (state plan past) same_order dues x.link x.known x.lanes beat
    go dues (D beat) allowed =
        reply_due plan (state plan past) same_order dues x.link x.known x.lanes beat allowed
