-- One beat more: the captured replies of each source still fit what its port's slave may reply.
use Rattle.std.proofs.Common.{◌≡◌, ◌∙◌, ℕ, ◌%◌, ◌^◌, Bool, true, false, if◌then◌else◌, List, [], ◌∷◌, ◌++◌, length, filter, zip, take, Option, Some, None, refl, ap, sym, subst, eqb-true, append-nil, append_assoc}
use Rattle.std.specs.Prelude.{◌==◌, ◌&&◌, IsSomeAnd}
use Rattle.std.proofs.lemmas.List.Elements.{filter-append}
use Rattle.check_cells.specs.Sent.{Sent}
use Rattle.check_cells.specs.Pattern.{Pattern, FitsCaptured}
use Rattle.check_beats.specs.Spelling.{ReplyBeat}
use Rattle.check_beats.specs.State.{Under, ReplyBegun, ends_reply, reply_of}
use Rattle.check_beats.specs.declared.beat.AskHead.{AskHead}
use Rattle.check_beats.specs.declared.beat.ReplyHead.{ReplyHead}
use Rattle.check_flight.specs.declared.answer.Answer.{Answer}
use Rattle.check_flight.specs.Flight.{Turn, Flight, idle, asked, due_by}
use Rattle.check_flight.specs.Flight.Turn.{Idle, Asking, Asked}
use Rattle.check_flight.specs.declared.order.Order.{Order}
use Rattle.check_flight.specs.declared.order.Order.TheVariants.{Accept, Reply, Any}
use Rattle.check_flight.specs.Order.{is_due_at_reply}
use Rattle.check_flight.specs.PortSlave.{PortSlave, due_answered_by, due_answering}
use Rattle.check_watch.specs.declared.beat.Beat.{Beat}
use Rattle.check_watch.specs.declared.beat.Beat.TheVariants.{A, D}
use Rattle.check_watch.specs.declared.beat.Link.{Link}
use Rattle.check_watch.specs.declared.beat.Link.TheVariants.{Master, Port}
use Rattle.check_watch.specs.Allowed.{IsMust, IsAllowedAsk, IsAllowedReply}
use Rattle.check_watch.specs.Lawful.{IsLawfulGroup, IsAllowed}
use Rattle.check_watch.specs.Past.{State, scene_found, scene_of, state, state_after}
use Rattle.check_watch.specs.Plan.{Plan, Layout, Sighting, LinkSide, side_of, link_number, wide_of, same_side, crosses_at_port, is_of, bus_of, wider_bus, HasLink, IsGroupLink}
use Rattle.check_watch.specs.Scene.{ask_by, ask_if, takes_effect, begins_reply, is_given, captured, flight_after}
use Rattle.check_watch.proofs.InFlight.{ask_at, reply_at, of_is}
use Rattle.check_watch_laws.specs.Crossed.{AskSeen, ReplySeen, AreWatched, reply_beat, replying_at, begun_replies_at, ask_ended, reply_ended, asks, replies}
use Rattle.check_watch_laws.specs.Memories.{side_for, port_for, is_for, order_at, reset_of, IsEntry, entries_of, with_source}
use Rattle.check_watch_laws.specs.Moments.{moments, slave_after_all, dues_of}
use Rattle.check_watch_laws.specs.Moments.Act.{Accepts, Answers}
use Rattle.check_watch_laws.proofs.Buses.{reply_on_bus}
use Rattle.check_watch_laws.proofs.Done.{AreReplayed, accepts_now, answers_now, port_own, ended_goes, ask_does, reply_does, reply_goes, orders, are_replayed}
use Rattle.check_watch_laws.proofs.Dues.{IsSourced, IsReplying, HasBegun, AreDue, late_sourced, are_due}
use Rattle.check_watch_laws.proofs.Flights.{pending, AreInStep, nothing_pending, in_step}
use Rattle.check_watch_laws.proofs.Links.{LinksAre, links_are}
use Rattle.check_watch_laws.proofs.Lists.{zip_past, zip_more}
use Rattle.check_watch_laws.proofs.Memory.{owed, IsTold, history_at, AreTold, new_owed, late_owed, other_entry}
use Rattle.check_watch_laws.proofs.Taking.{takes}
use Rattle.check_watch_laws.proofs.Told.{dues_none, gains, entries_more, AreMatched, matched_more}
use Rattle.check_watch_laws.proofs.Turns.{AsksFly, asks_fly, asked_at, link_on, own_link, eqb_own, same_side-refl}

-- the exchanges with a port among these requests and replies
abbrev pub at_port : Plan → ℕ → List AskSeen → List ReplySeen → List (AskSeen × ReplySeen)
at_port plan port asked answered = filter (λ (seen : AskSeen × ReplySeen). is_for plan port seen.0) (zip asked answered)

-- what is kept, at a side and a wide source that are written another way
pub told_at : (plan : Plan) (s : State) (past : List Sighting) (port wide own : ℕ) (side mine : LinkSide) → mine ≡ side
    → own ≡ wide
    → IsTold plan port wide side (s.flights side wide)
    (at_port plan port (asks plan side wide past) (replies plan side wide past))
    (entries_of wide (history_at plan port past))
    → IsTold plan port own mine (s.flights mine own)
    (at_port plan port (asks plan mine own past) (replies plan mine own past))
    (entries_of own (history_at plan port past))
told_at plan s past port wide own side mine side_is wide_is was =
    let P : LinkSide → ℕ → Type 0 =
    λ sd w. IsTold plan port w sd (s.flights sd w)
    (at_port plan port (asks plan sd w past) (replies plan sd w past)) (entries_of w (history_at plan port past)) in
    subst (λ sd. P sd own) (sym side_is) (subst (λ w. P side w) (sym wide_is) was)

unseen_by : (seen : Bool) (ended : Option Sent) → seen ≡ false → ask_if seen ended ≡ None
unseen_by true ended is = cc
unseen_by false ended is = refl

unseen_late : (seen begins : Bool) (ended : Option Sent) → seen ≡ false → ask_if (seen && begins) ended ≡ None
unseen_late true begins ended is = cc
unseen_late false begins ended is = refl

-- ---- a beat of a request

-- nothing was owed if nothing was in flight
none_owed : (plan : Plan) (port wide : ℕ) (side : LinkSide) (turn : Turn) (due : Option Answer) → pending side turn ≡ []
    → owed plan port wide side turn due ≡ []
none_owed plan port wide side Idle due none = refl
none_owed plan port wide side (Asking n) due none = refl
none_owed plan port wide side (Asked n ask) due none = cc

module _ (plan : Plan) (s : State) (past : List Sighting) (linked : LinksAre plan s past)
    (busy : AsksFly plan s) (steps : AreInStep plan s past) (replayed : AreReplayed plan s past)
    (told_so : AreTold plan s past) (link : Link) (known : ℕ) (lanes : List ℕ)
    (has : HasLink plan.layout link) (watched : IsGroupLink plan.layout link) (beat : AskHead)
    (allowed : IsAllowedAsk plan.layout link (scene_of plan s link (A beat)) beat known lanes) where
  abbrev own : ℕ
  own = wide_of plan link beat.source

  abbrev found : ℕ
  found = (scene_found plan s link (A beat)).port

  abbrev done : Option Sent
  done = accepts_now plan s link lanes beat

  -- what the entries of a source gain
  gained : (port wide : ℕ) → entries_of wide (history_at plan port (ask_at link known lanes beat ∷ past))
      ≡ entries_of wide (history_at plan port past)
      ++ (if found == port then (if own == wide then gains Accepts port
      (slave_after_all (reset_of plan port) (moments plan port past)) own done else []) else [])
  gained port wide =
      ap (λ l. entries_of wide (dues_of port (reset_of plan port) (moments plan port past ++ l)))
      (ask_does plan s past linked link known lanes has watched beat port)
      ∙ entries_more port (reset_of plan port) (moments plan port past) wide own Accepts (found == port) done

  -- of the source of this beat: what the slave gives
  gained_own : (port : ℕ) → (if found == port then (if own == own then gains Accepts port
      (slave_after_all (reset_of plan port) (moments plan port past)) own done else []) else [])
      ≡ (if found == port then gains Accepts found (s.slaves found) own done else [])
  gained_own port = go (found == port) refl
    where
      go : (here : Bool) → (found == port) ≡ here
          → (if here then (if own == own then gains Accepts port
          (slave_after_all (reset_of plan port) (moments plan port past)) own done else []) else []) ≡
          (if here then gains Accepts found (s.slaves found) own done else [])
      go false is = refl
      go true is = ap (λ b. if b then gains Accepts port
          (slave_after_all (reset_of plan port) (moments plan port past)) own done else []) (eqb_own own)
          ∙ ap (λ b. gains Accepts port b own done) (sym (replayed port))
          ∙ ap (λ p. gains Accepts p (s.slaves p) own done) (sym (eqb-true found port is))

  told_own : (port : ℕ) → IsTold plan port own (side_of link) (s.flights (side_of link) own)
      (at_port plan port (asks plan (side_of link) own past) (replies plan (side_of link) own past))
      (entries_of own (history_at plan port past))
      → IsTold plan port own (side_of link) (flight_after plan.layout link (scene_of plan s link (A beat))
      (A beat) lanes)
      (at_port plan port (asks plan (side_of link) own past
      ++ ask_ended plan.layout past (ask_at link known lanes beat) (A beat))
      (replies plan (side_of link) own past ++ []))
      (entries_of own (history_at plan port (ask_at link known lanes beat ∷ past)))
  told_own port was =
      let flight = s.flights (side_of link) own in
      let none = nothing_pending plan s past linked busy steps link known lanes beat allowed in
      let step = steps (side_of link) own in
      let asked = asks plan (side_of link) own past in
      let answered = replies plan (side_of link) own past in
      let under = s.links (side_of link) (link_number link) in
      let ended = ask_by under beat lanes in
      let more = ask_ended plan.layout past (ask_at link known lanes beat) (A beat) in
      let before : entries_of own (history_at plan port past) ≡ was.front =
      was.entries_are ∙ ap (λ l. was.front ++ l)
      (none_owed plan port own (side_of link) flight.turn flight.due none) ∙ append-nil was.front in
      let counted : length asked ≡ length answered =
      ap (λ (l : List AskSeen). length l) (step.asks_are ∙ ap (λ l. step.done ++ l) none ∙ append-nil step.done)
      ∙ sym step.counted in
      let seen : at_port plan port asked answered ≡ at_port plan port (asked ++ more) (answered ++ []) =
      ap (λ l. filter (λ (seen : AskSeen × ReplySeen). is_for plan port seen.0) l)
      (sym (zip_past asked more answered counted))
      ∙ ap (λ l. at_port plan port (asked ++ more) l) (sym (append-nil answered)) in
      record {
        front = was.front;
        entries_are = gained port own ∙ ap (λ l. l
            ++ (if found == port then (if own == own then gains Accepts port
            (slave_after_all (reset_of plan port) (moments plan port past)) own done else []) else [])) before
            ∙ ap (λ l. was.front ++ l) (gained_own port
            ∙ sym (new_owed plan port own found link (s.slaves found)
            (takes_effect plan.layout link found) ended
            (ended_goes plan link flight.turn under lanes beat)));
        matched = subst (λ l. AreMatched own l was.front) seen was.matched;
      }

  pub ask_told : AreTold plan (state_after plan s (ask_at link known lanes beat)) (ask_at link known lanes beat ∷ past)
  ask_told port wide = go (is_of plan (ask_at link known lanes beat) (side_for plan.layout port) wide) refl
    where
      Told : LinkSide → ℕ → Type 0
      Told sd w = IsTold plan port w sd (flight_after plan.layout link (scene_of plan s link (A beat)) (A beat) lanes)
          (at_port plan port (asks plan sd w past
          ++ ask_ended plan.layout past (ask_at link known lanes beat) (A beat))
          (replies plan sd w past ++ [])) (entries_of w (history_at plan port (ask_at link known lanes beat ∷ past)))

      go : (of : Bool) → is_of plan (ask_at link known lanes beat) (side_for plan.layout port) wide ≡ of
          → IsTold plan port wide (side_for plan.layout port)
          (if of then flight_after plan.layout link (scene_of plan s link (A beat)) (A beat) lanes else s.flights
          (side_for plan.layout port) wide)
          (at_port plan port (if of then asks plan (side_for plan.layout port) wide past
          ++ ask_ended plan.layout past (ask_at link known lanes beat) (A beat)
          else asks plan (side_for plan.layout port) wide past)
          (if of then replies plan (side_for plan.layout port) wide past
          ++ [] else replies plan (side_for plan.layout port) wide past))
          (entries_of wide (history_at plan port (ask_at link known lanes beat ∷ past)))
      go true is =
          let both = of_is plan (ask_at link known lanes beat) (side_for plan.layout port) wide is in
          subst (λ sd. Told sd wide) both.0 (subst (λ w. Told (side_of link) w) both.1
          (told_own port (told_at plan s past port wide own (side_for plan.layout port) (side_of link) both.0 both.1
          (told_so port wide))))
      go false is =
          let was = told_so port wide in
          let none = other_entry plan link has watched found own done
          (port_own plan link (s.flights (side_of link) own).turn (A beat))
          (unseen_by (takes_effect plan.layout link found) (ask_by (s.links (side_of link) (link_number link)) beat lanes))
          Accepts port wide (slave_after_all (reset_of plan port) (moments plan port past)) is in
          record {
            front = was.front;
            entries_are = gained port wide ∙ ap (λ l. entries_of wide (history_at plan port past) ++ l) none
                ∙ append-nil (entries_of wide (history_at plan port past)) ∙ was.entries_are;
            matched = was.matched;
          }

-- ---- a beat of a reply

-- if a request takes effect, its reply is what the slave gives
pub not_given : (layout : Layout) (link : Link) (port : ℕ) → takes_effect layout link port ≡ true
    → is_given layout link port ≡ false
not_given layout (Port p) port is = refl
not_given layout (Master m) port is = go (crosses_at_port layout port) is
  where
    go : (given : Bool) → (if given then false else true) ≡ true → given ≡ false
    go true e = cc
    go false e = refl

fresh_due : (plan : Plan) (s : State) (side : LinkSide) (wide n : ℕ) (turn : Turn) (ask : Sent)
    (due : Option Answer) (seen : Bool) → turn ≡ Asked n ask → HasBegun plan s side wide turn due
    → (seen && begins_reply (s.links (side_of (link_on side n)) (link_number (link_on side n))).replying) ≡ true
    → is_due_at_reply (order_at plan (port_for plan (link_on side n) ask.ask)) ≡ true
    → due ≡ None
fresh_due plan s side wide n turn ask None seen is begun effect late = refl
fresh_due plan s side wide n turn ask (Some answer) seen is begun effect late =
    absurd (go seen (s.links (side_of (link_on side n)) (link_number (link_on side n))).replying refl effect)
  where
    here : IsReplying plan s wide (link_on side n)
    here = subst (λ t. HasBegun plan s side wide t (Some answer)) is begun late

    go : (takes : Bool) (kept : Option ReplyBegun)
        → (s.links (side_of (link_on side n)) (link_number (link_on side n))).replying ≡ kept
        → (takes && begins_reply kept) ≡ true → ⊥
    go true None none all = let under_way : None ≡ Some here.0 = sym none ∙ here.1 in absurd (cc)
    go true (Some b) none all = cc
    go false kept none all = cc

-- a reply that is due as its request is answered is so by the order of the slave, and as it begins
late_by : (order : Order) (port : ℕ) (slave : PortSlave) (wide : ℕ) (ask : Sent) (answer : Answer)
    → due_answered_by order port slave wide ask ≡ Some answer → is_due_at_reply order ≡ true
late_by Accept port slave wide ask answer is = cc
late_by Reply port slave wide ask answer is = refl
late_by Any port slave wide ask answer is = refl

late_if : (effect : Bool) (port : ℕ) (slave : PortSlave) (wide : ℕ) (ask : Sent) (answer : Answer)
    → due_answering port slave wide (ask_if effect (Some ask)) ≡ Some answer
    → (effect ≡ true) × (is_due_at_reply slave.order ≡ true)
late_if true port slave wide ask answer is = (refl, late_by slave.order port slave wide ask answer is)
late_if false port slave wide ask answer is = cc

owed_off : (plan : Plan) (port wide n : ℕ) (link : Link) (ask : Sent) (due : Option Answer)
    → (port_for plan link ask.ask == port) ≡ false → n ≡ link_number link
    → owed plan port wide (side_of link) (Asked n ask) due ≡ []
owed_off plan port wide n link ask None off is = refl
owed_off plan port wide n link ask (Some answer) off is =
    let there : link_on (side_of link) n ≡ link = ap (λ k. link_on (side_of link) k) is ∙ own_link link in
    ap (λ (b : Bool). if b then (with_source wide ask, record answer.reply { source = wide }) ∷ [] else [])
    (ap (λ l. port_for plan l ask.ask == port) there ∙ off)

-- the last reply is the one that was owed
last_entry : (plan : Plan) (port wide : ℕ) (link : Link) (ask : Sent) (reply : ℕ → Pattern) (beats : List ReplyBeat)
    (seen : List (AskSeen × ReplySeen)) (front : List (Sent × Pattern)) (due : Option Answer)
    → (port_for plan link ask.ask == port) ≡ true → IsSourced (Asked (link_number link) ask) due
    → IsSomeAnd due (λ answer. FitsCaptured answer.reply (reply ask.ask.address)) → AreMatched wide seen front
    → AreMatched wide (seen ++ (
      record { link = link; sent = ask },
      record { link = link; reply = reply; beats = beats },
    ) ∷ [])
    (front ++ owed plan port wide (side_of link) (Asked (link_number link) ask) due)
last_entry plan port wide link ask reply beats seen front None goes sourced must all = absurd must
last_entry plan port wide link ask reply beats seen front (Some answer) goes sourced must all =
    let last : AskSeen × ReplySeen = (
      record { link = link; sent = ask },
      record { link = link; reply = reply; beats = beats },
    ) in
    let entry : Sent × Pattern = (with_source wide ask, record answer.reply { source = wide }) in
    let same : record answer.reply { source = ask.ask.source } ≡ answer.reply =
    ap (λ k. record answer.reply { source = k }) (sym sourced) in
    let is : IsEntry wide last entry = record {
      ask = refl;
      fits = subst (λ (r : Pattern). FitsCaptured r (reply ask.ask.address)) (sym same) must;
    } in
    let owed_is : entry ∷ [] ≡ owed plan port wide (side_of link) (Asked (link_number link) ask) (Some answer) =
    ap (λ (b : Bool). if b then entry ∷ [] else [])
    (sym (ap (λ l. port_for plan l ask.ask == port) (own_link link) ∙ goes)) in
    subst (λ l. AreMatched wide (seen ++ last ∷ []) (front ++ l)) owed_is
    (matched_more wide seen front last entry all is)

-- the exchanges with one reply more
pub seen_more : (plan : Plan) (port : ℕ) (asked done : List AskSeen) (answered : List ReplySeen) (last : AskSeen)
    (reply : ReplySeen) → asked ≡ done ++ last ∷ [] → length answered ≡ length done
    → at_port plan port asked answered ++ (if is_for plan port last then (last, reply) ∷ [] else []) ≡ at_port plan port
    (asked ++ []) (answered ++ reply ∷ [])
seen_more plan port asked done answered last reply is counted =
    let test : AskSeen × ReplySeen → Bool = λ seen. is_for plan port seen.0 in
    ap (λ l. at_port plan port l answered ++ (if is_for plan port last then (last, reply) ∷ [] else [])) is
    ∙ ap (λ l. filter test l ++ (if is_for plan port last then (last, reply) ∷ [] else []))
    (zip_past done (last ∷ []) answered (sym counted))
    ∙ sym (filter-append test (zip done answered) ((last, reply) ∷ []))
    ∙ ap (λ l. filter test l) (sym (zip_more done answered last reply (sym counted)))
    ∙ ap (λ l. at_port plan port l (answered ++ reply ∷ [])) (sym (append-nil asked ∙ is))

-- a beat of a reply to the request in flight, whether it is lawful or not
module _ (plan : Plan) (s : State) (past : List Sighting) (linked : LinksAre plan s past) (steps : AreInStep plan s past)
    (dues : AreDue plan s) (replayed : AreReplayed plan s past) (link : Link) (known : ℕ) (lanes : List ℕ)
    (has : HasLink plan.layout link) (watched : IsGroupLink plan.layout link) (beat : ReplyHead) (ask : Sent)
    (in_flight : (s.flights (side_of link) (wide_of plan link beat.source)).turn ≡ Asked (link_number link) ask) where
  abbrev key : ℕ
  key = wide_of plan link beat.source

  abbrev to_port : ℕ
  to_port = (scene_found plan s link (D beat)).port

  abbrev effect_now : Option Sent
  effect_now = answers_now plan s link beat

  -- what is in flight, and what must come
  abbrev flying : Flight
  flying = s.flights (side_of link) key

  abbrev due_now : Option Answer
  due_now = due_by flying.due (due_answering to_port (s.slaves to_port) key effect_now)

  pub gain : (port wide : ℕ) → entries_of wide (history_at plan port (reply_at link known lanes beat ∷ past))
      ≡ entries_of wide (history_at plan port past)
      ++ (if to_port == port then (if key == wide then gains Answers port
      (slave_after_all (reset_of plan port) (moments plan port past)) key effect_now else []) else [])
  gain port wide =
      ap (λ l. entries_of wide (dues_of port (reset_of plan port) (moments plan port past ++ l)))
      (reply_does plan s past linked link known lanes has watched steps beat ask in_flight port)
      ∙ entries_more port (reset_of plan port) (moments plan port past) wide key Answers (to_port == port) effect_now

  gain_own : (port : ℕ) → (if to_port == port then (if key == key then gains Answers port
      (slave_after_all (reset_of plan port) (moments plan port past)) key effect_now else []) else [])
      ≡ (if to_port == port then gains Answers to_port (s.slaves to_port) key effect_now else [])
  gain_own port = go (to_port == port) refl
    where
      go : (at : Bool) → (to_port == port) ≡ at
          → (if at then (if key == key then gains Answers port
          (slave_after_all (reset_of plan port) (moments plan port past)) key effect_now else []) else []) ≡
          (if at then gains Answers to_port (s.slaves to_port) key effect_now else [])
      go false is = refl
      go true is = ap (λ b. if b then gains Answers port
          (slave_after_all (reset_of plan port) (moments plan port past)) key effect_now else []) (eqb_own key)
          ∙ ap (λ b. gains Answers port b key effect_now) (sym (replayed port))
          ∙ ap (λ p. gains Answers p (s.slaves p) key effect_now) (sym (eqb-true to_port port is))

  pub goes_there : port_for plan link ask.ask ≡ to_port
  goes_there = reply_goes plan link flying.turn (link_number link) beat ask in_flight

  abbrev effects : Bool
  effects = takes_effect plan.layout link to_port
      && begins_reply (s.links (side_of link) (link_number link)).replying

  -- its entry stands last, once its reply is due
  pub put_last : (port : ℕ) (front : List (Sent × Pattern))
      → entries_of key (history_at plan port past) ≡ front ++ owed plan port key (side_of link) flying.turn flying.due
      → entries_of key (history_at plan port (reply_at link known lanes beat ∷ past)) ≡ front
      ++ owed plan port key (side_of link) flying.turn due_now
  put_last port front is =
      let order_is : port_for plan (link_on (side_of link) (link_number link)) ask.ask ≡ to_port =
      ap (λ l. port_for plan l ask.ask) (own_link link) ∙ goes_there in
      let fresh : (answer : Answer)
      → due_answering to_port (s.slaves to_port) key (ask_if effects (Some ask)) ≡ Some answer → flying.due ≡ None =
      λ answer due. let so = late_if effects to_port (s.slaves to_port) key ask answer due in
      fresh_due plan s (side_of link) key (link_number link) flying.turn ask flying.due
      (takes_effect plan.layout link to_port) in_flight (dues (side_of link) key).begun
      (ap (λ (l : Link). takes_effect plan.layout link to_port
      && begins_reply (s.links (side_of l) (link_number l)).replying) (own_link link) ∙ so.0)
      (ap (λ p. is_due_at_reply (order_at plan p)) order_is
      ∙ ap is_due_at_reply (orders plan s past replayed to_port) ∙ so.1) in
      gain port key
      ∙ ap (λ l. l ++ (if to_port == port then (if key == key then gains Answers port
      (slave_after_all (reset_of plan port) (moments plan port past)) key effect_now else []) else [])) is
      ∙ append_assoc front (owed plan port key (side_of link) flying.turn flying.due)
      (if to_port == port then (if key == key then gains Answers port
      (slave_after_all (reset_of plan port) (moments plan port past)) key effect_now else []) else [])
      ∙ ap (λ l. front ++ (owed plan port key (side_of link) flying.turn flying.due ++ l)) (gain_own port)
      ∙ ap (λ l. front ++ l) (late_owed plan port key to_port link
      (s.slaves to_port) effects flying.turn ask flying.due in_flight goes_there fresh)

  pub sourced_late : IsSourced (Asked (link_number link) ask) due_now
  sourced_late =
      let before : IsSourced (Asked (link_number link) ask) flying.due =
      subst (λ t. IsSourced t flying.due) in_flight (dues (side_of link) key).sourced in
      subst (λ t. IsSourced (Asked (link_number link) ask)
      (due_by flying.due (due_answering to_port (s.slaves to_port) key (ask_if effects (asked t)))))
      (sym in_flight)
      (late_sourced to_port key (s.slaves to_port) effects (link_number link) ask flying.due before)

module _ (plan : Plan) (s : State) (past : List Sighting) (linked : LinksAre plan s past) (steps : AreInStep plan s past)
    (dues : AreDue plan s) (replayed : AreReplayed plan s past) (told_so : AreTold plan s past) (link : Link)
    (known : ℕ) (lanes : List ℕ)
    (has : HasLink plan.layout link) (watched : IsGroupLink plan.layout link) (beat : ReplyHead)
    (allowed : IsAllowedReply plan.layout link (scene_of plan s link (D beat)) beat known lanes) where
  abbrev mine : ℕ
  mine = wide_of plan link beat.source

  abbrev goes_to : ℕ
  goes_to = (scene_found plan s link (D beat)).port

  abbrev does : Option Sent
  does = answers_now plan s link beat

  -- what is in flight, and what must come
  abbrev here : Flight
  here = s.flights (side_of link) mine

  abbrev late_due : Option Answer
  late_due = due_by here.due (due_answering goes_to (s.slaves goes_to) mine does)

  -- the request that is answered
  answers : (ask : Sent) × (here.turn ≡ Asked (link_number link) ask)
  answers =
      let found = asked_at (link_number link) here.turn _ allowed.answers in
      (found.0, found.1)

  goes : port_for plan link answers.0.ask ≡ goes_to
  goes = reply_goes plan link here.turn (link_number link) beat answers.0 answers.1

  reply_gained : (port wide : ℕ) → entries_of wide (history_at plan port (reply_at link known lanes beat ∷ past))
      ≡ entries_of wide (history_at plan port past)
      ++ (if goes_to == port then (if mine == wide then gains Answers port
      (slave_after_all (reset_of plan port) (moments plan port past)) mine does else []) else [])
  reply_gained = gain plan s past linked steps dues replayed link known lanes has watched beat answers.0 answers.1

  mid : (port : ℕ) (front : List (Sent × Pattern))
      → entries_of mine (history_at plan port past) ≡ front ++ owed plan port mine (side_of link) here.turn here.due
      → entries_of mine (history_at plan port (reply_at link known lanes beat ∷ past)) ≡ front
      ++ owed plan port mine (side_of link) here.turn late_due
  mid = put_last plan s past linked steps dues replayed link known lanes has watched beat answers.0 answers.1

  late_is_sourced : IsSourced (Asked (link_number link) answers.0) late_due
  late_is_sourced =
      sourced_late plan s past linked steps dues replayed link known lanes has watched beat answers.0 answers.1

  abbrev bus : ℕ
  bus = bus_of plan.layout link

  abbrev message : List ReplyBeat
  message = begun_replies_at plan.layout link past ++ reply_beat bus beat known lanes ∷ []

  abbrev got : ℕ → Pattern
  got address = reply_of bus (replying_at plan.layout link past) address beat (known % 2 ^ bus) (take bus lanes)

  abbrev reply_now : ReplySeen
  reply_now = record { link = link; reply = λ address. got address; beats = message }

  -- what is captured, after these beats of the link
  captured_is : captured (s.links (side_of link) (link_number link)) here.turn beat known lanes ≡ got answers.0.ask.address
  captured_is =
      ap (λ t. captured (s.links (side_of link) (link_number link)) t beat known lanes) answers.1
      ∙ ap (λ (u : Under). captured u (Asked (link_number link) answers.0) beat known lanes) (linked link)
      ∙ sym (reply_on_bus plan.layout link (replying_at plan.layout link past) answers.0.ask.address beat known lanes)

  abbrev asked_now : List AskSeen
  asked_now = asks plan (side_of link) mine past

  abbrev answered_now : List ReplySeen
  answered_now = replies plan (side_of link) mine past

  abbrev now : AskSeen
  now = record { link = link; sent = answers.0 }

  abbrev ends_now : Bool
  ends_now = ends_reply bus (replying_at plan.layout link past) beat

  ends_is : ends_reply (s.links (side_of link) (link_number link)).bus
      (s.links (side_of link) (link_number link)).replying beat ≡ ends_now
  ends_is = ap (λ (u : Under). ends_reply u.bus u.replying beat) (linked link)

  -- the exchange that ends is the entry that stands last
  last_matched : (port : ℕ) (front : List (Sent × Pattern)) → side_of link ≡ side_for plan.layout port
      → ends_now ≡ true
      → AreMatched mine (at_port plan port asked_now answered_now) front
      → AreMatched mine (at_port plan port asked_now answered_now
      ++ (if is_for plan port now then (now, reply_now) ∷ [] else []))
      (front ++ owed plan port mine (side_of link) here.turn late_due)
  last_matched port front side ends all =
      subst (λ t. AreMatched mine (at_port plan port asked_now answered_now
      ++ (if is_for plan port now then (now, reply_now) ∷ [] else []))
      (front ++ owed plan port mine (side_of link) t late_due)) (sym answers.1)
      (go (port_for plan link answers.0.ask == port) refl)
    where
      seen_here : same_side (side_of link) (side_for plan.layout port) ≡ true
      seen_here = ap (λ sd. same_side (side_of link) sd) (sym side) ∙ same_side-refl (side_of link)

      for_is : is_for plan port now ≡ (port_for plan link answers.0.ask == port)
      for_is = ap (λ b. b && (port_for plan link answers.0.ask == port)) seen_here

      go : (at : Bool) → (port_for plan link answers.0.ask == port) ≡ at
          → AreMatched mine (at_port plan port asked_now answered_now
          ++ (if is_for plan port now then (now, reply_now) ∷ [] else []))
          (front ++ owed plan port mine (side_of link) (Asked (link_number link) answers.0) late_due)
      go false is =
          let none = owed_off plan port mine (link_number link) link answers.0 late_due is refl in
          subst (λ b. AreMatched mine (at_port plan port asked_now answered_now
          ++ (if b then (now, reply_now) ∷ [] else []))
          (front ++ owed plan port mine (side_of link) (Asked (link_number link) answers.0) late_due))
          (sym (for_is ∙ is))
          (subst (λ l. AreMatched mine l (front ++ owed plan port mine (side_of link)
          (Asked (link_number link) answers.0) late_due))
          (sym (append-nil (at_port plan port asked_now answered_now)))
          (subst (λ l. AreMatched mine (at_port plan port asked_now answered_now) l)
          (sym (ap (λ l. front ++ l) none ∙ append-nil front)) all))
      go true is =
          let there : goes_to ≡ port = sym goes ∙ eqb-true (port_for plan link answers.0.ask) port is in
          let effective : takes_effect plan.layout link goes_to ≡ true =
          takes plan.layout link goes_to has watched (port_own plan link here.turn (D beat))
          ∙ ap (λ p. same_side (side_of link) (side_for plan.layout p)) there ∙ seen_here in
          let must : IsSomeAnd late_due (λ answer. FitsCaptured answer.reply (got answers.0.ask.address)) =
          subst (λ (r : Pattern). IsMust false (wider_bus plan.layout link goes_to) (s.crossings mine) late_due r) captured_is
          (subst (λ given. IsMust given (wider_bus plan.layout link goes_to) (s.crossings mine) late_due
          (captured (s.links (side_of link) (link_number link)) here.turn beat known lanes))
          (not_given plan.layout link goes_to effective) (allowed.ends (ends_is ∙ ends))) in
          subst (λ b. AreMatched mine (at_port plan port asked_now answered_now
          ++ (if b then (now, reply_now) ∷ [] else []))
          (front ++ owed plan port mine (side_of link) (Asked (link_number link) answers.0) late_due))
          (sym (for_is ∙ is))
          (last_entry plan port mine link answers.0 (λ address. got address) message
          (at_port plan port asked_now answered_now) front late_due is late_is_sourced must all)

  told_here : (port : ℕ) → side_of link ≡ side_for plan.layout port
      → IsTold plan port mine (side_of link) here (at_port plan port asked_now answered_now)
      (entries_of mine (history_at plan port past))
      → IsTold plan port mine (side_of link) (flight_after plan.layout link (scene_of plan s link (D beat))
      (D beat) lanes)
      (at_port plan port (asked_now ++ []) (answered_now
      ++ reply_ended plan.layout past (reply_at link known lanes beat) (D beat)))
      (entries_of mine (history_at plan port (reply_at link known lanes beat ∷ past)))
  told_here port side was = subst (λ b. Told b ends_now) (sym ends_is) (go ends_now refl)
    where
      Told : Bool → Bool → Type 0
      Told ends same = IsTold plan port mine (side_of link)
          (if ends then idle else (scene_of plan s link (D beat)).flight)
          (at_port plan port (asked_now ++ []) (answered_now
          ++ (if same then reply_now ∷ [] else [])))
          (entries_of mine (history_at plan port (reply_at link known lanes beat ∷ past)))

      go : (ends : Bool) → ends_now ≡ ends → Told ends ends
      go false is = record {
        front = was.front;
        entries_are = mid port was.front was.entries_are;
        matched = subst (λ l. AreMatched mine l was.front)
            (sym (ap (λ l. at_port plan port l (answered_now ++ [])) (append-nil asked_now)
            ∙ ap (λ l. at_port plan port asked_now l) (append-nil answered_now))) was.matched;
      }
      go true is =
          let step = steps (side_of link) mine in
          let asked_is : asked_now ≡ step.done ++ now ∷ [] =
          step.asks_are ∙ ap (λ t. step.done ++ pending (side_of link) t) answers.1
          ∙ ap (λ (l : Link). step.done ++ record { link = l; sent = answers.0 } ∷ []) (own_link link) in
          let left = was.front ++ owed plan port mine (side_of link) here.turn late_due in
          record {
            front = left;
            entries_are = mid port was.front was.entries_are ∙ sym (append-nil left);
            matched = subst (λ l. AreMatched mine l left)
                (seen_more plan port asked_now step.done answered_now now reply_now asked_is step.counted)
                (last_matched port was.front side is was.matched);
          }

  pub reply_told : AreTold plan (state_after plan s (reply_at link known lanes beat))
      (reply_at link known lanes beat ∷ past)
  reply_told port wide = go (is_of plan (reply_at link known lanes beat) (side_for plan.layout port) wide) refl
    where
      Told : LinkSide → ℕ → Type 0
      Told sd w = IsTold plan port w sd (flight_after plan.layout link (scene_of plan s link (D beat)) (D beat) lanes)
          (at_port plan port (asks plan sd w past ++ [])
          (replies plan sd w past ++ reply_ended plan.layout past (reply_at link known lanes beat) (D beat)))
          (entries_of w (history_at plan port (reply_at link known lanes beat ∷ past)))

      go : (of : Bool) → is_of plan (reply_at link known lanes beat) (side_for plan.layout port) wide ≡ of
          → IsTold plan port wide (side_for plan.layout port)
          (if of then flight_after plan.layout link (scene_of plan s link (D beat)) (D beat) lanes else s.flights
          (side_for plan.layout port) wide)
          (at_port plan port (if of then asks plan (side_for plan.layout port) wide past
          ++ [] else asks plan (side_for plan.layout port) wide past)
          (if of then replies plan (side_for plan.layout port) wide past
          ++ reply_ended plan.layout past (reply_at link known lanes beat) (D beat) else replies plan
          (side_for plan.layout port) wide past))
          (entries_of wide (history_at plan port (reply_at link known lanes beat ∷ past)))
      go true is =
          let both = of_is plan (reply_at link known lanes beat) (side_for plan.layout port) wide is in
          subst (λ sd. Told sd wide) both.0 (subst (λ w. Told (side_of link) w) both.1
          (told_here port both.0 (told_at plan s past port wide mine (side_for plan.layout port)
          (side_of link) both.0 both.1 (told_so port wide))))
      go false is =
          let was = told_so port wide in
          let none = other_entry plan link has watched goes_to mine does (port_own plan link here.turn (D beat))
          (unseen_late (takes_effect plan.layout link goes_to)
          (begins_reply (s.links (side_of link) (link_number link)).replying) (asked here.turn))
          Answers port wide (slave_after_all (reset_of plan port) (moments plan port past)) is in
          record {
            front = was.front;
            entries_are = reply_gained port wide ∙ ap (λ l. entries_of wide (history_at plan port past) ++ l) none
                ∙ append-nil (entries_of wide (history_at plan port past)) ∙ was.entries_are;
            matched = was.matched;
          }

-- ---- all beats

pub are_told : (plan : Plan) (past : List Sighting) → AreWatched plan.layout past → IsLawfulGroup plan past
    → AreTold plan (state plan past) past
are_told plan [] watched lawful =
    λ port wide. record {
      front = [];
      entries_are = ap (λ l. entries_of wide l) (dues_none port (reset_of plan port));
      matched = tt;
    }
are_told plan (x ∷ past) watched lawful = go (are_told plan past watched.1 lawful.0) x.beat lawful.1
  where
    go : AreTold plan (state plan past) past → (beat : Beat)
        → IsAllowed plan (scene_of plan (state plan past) x.link beat) (record x { beat = beat })
        → AreTold plan (state_after plan (state plan past) (record x { beat = beat })) (record x { beat = beat } ∷ past)
    go told_so (A beat) allowed =
        ask_told plan (state plan past) past (links_are plan past) (asks_fly plan past lawful.0)
        (in_step plan past lawful.0) (are_replayed plan past watched.1 lawful.0) told_so
        x.link x.known x.lanes watched.0.link watched.0.watched beat allowed
    go told_so (D beat) allowed =
        reply_told plan (state plan past) past (links_are plan past) (in_step plan past lawful.0)
        (are_due plan past watched.1 lawful.0) (are_replayed plan past watched.1 lawful.0) told_so
        x.link x.known x.lanes watched.0.link watched.0.watched beat allowed
