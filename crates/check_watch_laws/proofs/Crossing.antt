-- What lawful beats say of a crossbar both of whose sides are watched.
use Rattle.std.proofs.Common.{◌≡◌, ◌∙◌, ℕ, ◌%◌, ◌^◌, ◌⊎◌, inl, inr, Bool, true, false, if◌then◌else◌, List, [], ◌∷◌, ◌++◌, Some, None, length, take, refl, ap, sym, subst, arith, eqb-true, append-nil}
use Rattle.std.specs.Prelude.{◌==◌, ◌&&◌}
use Rattle.std.specs.List.{AllByRecursion}
use Rattle.check_cells.specs.Sent.{Sent}
use Rattle.tl_map.specs.Owner.{IsOf, IsWideSource}
use Rattle.tl_map.proofs.Kept.{one_owner}
use Rattle.check_cells.specs.Pattern.{Pattern}
use Rattle.check_beats.specs.State.{Under, ends_ask, ends_reply, ask_of, reply_of}
use Rattle.check_beats.specs.declared.beat.AskHead.{AskHead}
use Rattle.check_beats.specs.declared.beat.ReplyHead.{ReplyHead}
use Rattle.check_flight.specs.Crossing.{Crossing, IsSameSent}
use Rattle.check_flight.specs.Crossing.Crossing.{Waiting, Crossed, Given}
use Rattle.check_flight.specs.Flight.{Turn, Flight, idle}
use Rattle.check_flight.specs.Flight.Turn.{Idle, Asking, Asked}
use Rattle.check_watch.specs.declared.beat.Beat.{Beat}
use Rattle.check_watch.specs.declared.beat.Beat.TheVariants.{A, D}
use Rattle.check_watch.specs.declared.beat.Link.{Link}
use Rattle.check_watch.specs.declared.beat.Link.TheVariants.{Master, Port}
use Rattle.check_watch.specs.declared.links.Links.TheVariants.{Both}
use Rattle.check_watch.specs.Allowed.{IsAskedAs, IsMust, IsAllowedAsk, IsAllowedReply}
use Rattle.check_watch.specs.Lawful.{IsLawfulGroup, IsAllowed}
use Rattle.check_watch.specs.Past.{State, port_in, scene_of, state, state_after}
use Rattle.check_watch.specs.Plan.{Layout, Plan, IsPlan, Sighting, LinkSide, side_of, link_number, is_of, are_both, may_cross, bus_of, HasLink, HasSource, IsGroupLink, RoutesWide, route_of, wider_bus, seen_at}
use Rattle.check_watch.specs.Plan.LinkSide.{AtMasters, AtPorts}
use Rattle.check_watch.specs.Scene.{ask_by, turn_by, captured, flight_after, is_given, given_by}
use Rattle.check_watch.proofs.InFlight.{ask_at, reply_at}
use Rattle.check_watch.proofs.Judging.{route_is}
use Rattle.check_watch_laws.specs.Crossed.{AskSeen, ReplySeen, AreWatched, reply_beat, asking_at, replying_at, begun_replies_at, ask_ended, reply_ended, asks, replies, exchanges}
use Rattle.check_watch_laws.specs.Crossings.{IsOfMaster, answered_from_outside, sent_out, AreSeenAcross, AreGiven, MessagesCross}
use Rattle.check_watch_laws.proofs.Buses.{ask_on_bus, reply_on_bus}
use Rattle.check_watch_laws.proofs.Flights.{pending, InStep, nothing_pending, in_step}
use Rattle.check_watch_laws.proofs.Links.{links_are}
use Rattle.check_watch_laws.proofs.Placing.{beat_placed, asks_placed_so}
use Rattle.check_watch_laws.proofs.Replying.{all_more}
use Rattle.check_watch_laws.proofs.Standing.{Story, IsAtRest, IsOut, goes_to, is_out, Stands, IsGot, IsTheSent, IsItsGift, master_asks, master_gets, port_asks, port_gives, given_but_one, AllSeen, seen_but_one}
use Rattle.check_watch_laws.proofs.Taking.{crosses_there}
use Rattle.check_watch_laws.proofs.Turns.{asks_fly, open_before, asked_at}

pub last_of_all : {X : Type 0} (P : X → Type 0) (xs : List X) (x : X) → AllByRecursion P (xs ++ x ∷ []) → P x
last_of_all P [] x all = all.0
last_of_all P (y ∷ xs) x all = last_of_all P xs x all.1

-- ---- owners

-- a source at a master's link is one of this master, with this wide source
wide_here : (plan : Plan) → IsPlan plan → (m source : ℕ) → HasSource plan.layout (Master m) source
    → IsWideSource plan.layout.owners m source (plan.wide m source)
wide_here plan is m source has =
    subst (λ w. IsWideSource plan.layout.owners m source w) (sym (is.wide m source has.0 has.1)) has.1

pub asks_owned : (plan : Plan) → IsPlan plan → (past : List Sighting) → IsLawfulGroup plan past → (wide : ℕ)
    → AllByRecursion (IsOfMaster plan.layout wide) (asks plan AtMasters wide past)
asks_owned plan is [] lawful wide = tt
asks_owned plan is (x ∷ past) lawful wide = go x.link x.beat lawful.1 (asks_owned plan is past lawful.0 wide)
  where
    none : AllByRecursion (IsOfMaster plan.layout wide) (asks plan AtMasters wide past)
        → AllByRecursion (IsOfMaster plan.layout wide) (asks plan AtMasters wide past ++ [])
    none before = subst (λ l. AllByRecursion (IsOfMaster plan.layout wide) l)
        (sym (append-nil (asks plan AtMasters wide past))) before

    go : (link : Link) (beat : Beat) → IsAllowed plan
        (scene_of plan (state plan past) link beat) (seen_at link beat x.known x.lanes)
        → AllByRecursion (IsOfMaster plan.layout wide) (asks plan AtMasters wide past)
        → AllByRecursion (IsOfMaster plan.layout wide)
        (if is_of plan (seen_at link beat x.known x.lanes) AtMasters wide then asks plan AtMasters wide past
        ++ ask_ended plan.layout past (seen_at link beat x.known x.lanes) beat else asks plan AtMasters wide past)
    go (Port p) beat allowed before = before
    go (Master m) (D beat) allowed before = by_source (plan.wide m beat.source == wide)
      where
        by_source : (of : Bool) → AllByRecursion (IsOfMaster plan.layout wide)
            (if of then asks plan AtMasters wide past ++ [] else asks plan AtMasters wide past)
        by_source true = none before
        by_source false = before
    go (Master m) (A beat) allowed before = by_source (plan.wide m beat.source == wide) refl
      where
        by_end : (plan.wide m beat.source == wide) ≡ true → (ask : Sent) → ask.ask.source ≡ beat.source → (ends : Bool)
            → AllByRecursion (IsOfMaster plan.layout wide)
            (asks plan AtMasters wide past ++ (if ends then record { link = Master m; sent = ask } ∷ [] else []))
        by_end so ask source false = none before
        by_end so ask source true = all_more (IsOfMaster plan.layout wide) (asks plan AtMasters wide past)
            (record { link = Master m; sent = ask }) before (
              m,
              refl,
              subst (λ n. IsWideSource plan.layout.owners m n wide) (sym source)
                  (subst (λ w. IsWideSource plan.layout.owners m beat.source w)
                  (eqb-true (plan.wide m beat.source) wide so) (wide_here plan is m beat.source allowed.source)),
            )

        by_source : (of : Bool) → (plan.wide m beat.source == wide) ≡ of
            → AllByRecursion (IsOfMaster plan.layout wide)
            (if of then asks plan AtMasters wide past
            ++ ask_ended plan.layout past (ask_at (Master m) x.known x.lanes beat) (A beat)
            else asks plan AtMasters wide past)
        by_source false so = before
        by_source true so = by_end so
            (ask_of (bus_of plan.layout (Master m)) (asking_at plan.layout (Master m) past) beat
            (take (bus_of plan.layout (Master m)) x.lanes)) refl
            (ends_ask (bus_of plan.layout (Master m)) (asking_at plan.layout (Master m) past) beat)

-- ---- one beat more

abbrev pub story_at : Plan → ℕ → List Sighting → Story
story_at plan wide past = record {
  sent = asks plan AtMasters wide past;
  collected = replies plan AtMasters wide past;
  taken = asks plan AtPorts wide past;
  gave = replies plan AtPorts wide past;
}

abbrev pub AllStand : Plan → State → List Sighting → Type 0
AllStand plan s past =
    (wide : ℕ) → Stands plan wide (story_at plan wide past) (s.flights AtMasters wide).turn (s.crossings wide)
    (s.flights AtPorts wide).turn

at_rest : (plan : Plan) (wide : ℕ) (story : Story) (n : ℕ) (turn : Turn) (crossing : Crossing) (there : Turn)
    → (turn ≡ Idle) ⊎ (turn ≡ Asking n) → Stands plan wide story turn crossing there → IsAtRest plan wide story there
at_rest plan wide story n turn crossing there (inl is) stands =
    subst (λ t. Stands plan wide story t crossing there) is stands
at_rest plan wide story n turn crossing there (inr is) stands =
    subst (λ t. Stands plan wide story t crossing there) is stands

counted_free : (side : LinkSide) (turn : Turn) (asked : List AskSeen) (answered : List ReplySeen)
    → InStep side turn asked answered → pending side turn ≡ [] → length asked ≡ length answered
counted_free side turn asked answered step none =
    ap (λ (l : List AskSeen). length l) (step.asks_are ∙ ap (λ l. step.done ++ l) none ∙ append-nil step.done)
    ∙ sym step.counted

asked_as : (layout : Layout) (port : ℕ) (turn : Turn) (seen : Sent) → IsAskedAs layout port turn seen
    → (n : ℕ) × (sent : Sent) × (turn ≡ Asked n sent) × IsSameSent (wider_bus layout (Master n) port) sent seen
asked_as layout port Idle seen is = absurd is
asked_as layout port (Asking n) seen is = absurd is
asked_as layout port (Asked n sent) seen is = (n, sent, refl, is)

turn_after : (ends : Bool) (flight : Flight)
    → (if ends then idle else flight).turn ≡ (if ends then Idle else flight.turn)
turn_after true flight = refl
turn_after false flight = refl

module _ (plan : Plan) (is_plan : IsPlan plan) (both : plan.layout.links ≡ Both) (past : List Sighting)
    (lawful : IsLawfulGroup plan past) (before : AllStand plan (state plan past) past) (known : ℕ) (lanes : List ℕ) where
  abbrev s : State
  s = state plan past

  -- the request and the reply that a beat ends at a link, with the lanes of its bus
  abbrev asked_here : Link → AskHead → Sent
  asked_here link beat = ask_of (bus_of plan.layout link) (asking_at plan.layout link past) beat
      (take (bus_of plan.layout link) lanes)

  abbrev got_here : Link → ReplyHead → ℕ → Pattern
  got_here link beat address = reply_of (bus_of plan.layout link) (replying_at plan.layout link past) address beat
      (known % 2 ^ bus_of plan.layout link) (take (bus_of plan.layout link) lanes)

  abbrev reply_here : Link → ReplyHead → ReplySeen
  reply_here link beat = record {
    link = link;
    reply = λ address. got_here link beat address;
    beats = begun_replies_at plan.layout link past ++ reply_beat (bus_of plan.layout link) beat known lanes ∷ [];
  }

  abbrev ends_ask_here : Link → AskHead → Bool
  ends_ask_here link beat = ends_ask (bus_of plan.layout link) (asking_at plan.layout link past) beat

  abbrev ends_reply_here : Link → ReplyHead → Bool
  ends_reply_here link beat = ends_reply (bus_of plan.layout link) (replying_at plan.layout link past) beat

  -- what the judge keeps at a link says the same
  ask_is : (link : Link) (beat : AskHead)
      → ask_of (bus_of plan.layout link) (asking_at plan.layout link past) beat lanes ≡ asked_here link beat
  ask_is link beat = sym (ask_on_bus plan.layout link (asking_at plan.layout link past) beat lanes)

  got_is : (link : Link) (beat : ReplyHead) (turn : Turn) (n : ℕ) (ask : Sent) → turn ≡ Asked n ask
      → captured (s.links (side_of link) (link_number link)) turn beat known lanes ≡ got_here link beat ask.ask.address
  got_is link beat turn n ask is =
      ap (λ t. captured (s.links (side_of link) (link_number link)) t beat known lanes) is
      ∙ ap (λ (u : Under). captured u (Asked n ask) beat known lanes) (links_are plan past link)
      ∙ sym (reply_on_bus plan.layout link (replying_at plan.layout link past) ask.ask.address beat known lanes)

  ends_is : (link : Link) (beat : ReplyHead)
      → ends_reply (s.links (side_of link) (link_number link)).bus
      (s.links (side_of link) (link_number link)).replying beat ≡ ends_reply_here link beat
  ends_is link beat = ap (λ (u : Under). ends_reply u.bus u.replying beat) (links_are plan past link)

  -- ---- at masters' links

  module _ (m : ℕ) (beat : AskHead) (allowed : IsAllowedAsk plan.layout (Master m)
      (scene_of plan s (Master m) (A beat)) beat known lanes) where
    abbrev sender : ℕ
    sender = plan.wide m beat.source

    abbrev sent_now : Story
    sent_now = record (story_at plan sender past) {
      sent = asks plan AtMasters sender past
          ++ ask_ended plan.layout past (ask_at (Master m) known lanes beat) (A beat);
      collected = replies plan AtMasters sender past ++ [];
    }

    own_sent : Stands plan sender sent_now (turn_by m (ask_by (s.links AtMasters m) beat lanes)) Waiting
        (s.flights AtPorts sender).turn
    own_sent =
        let linked = links_are plan past in
        let busy = asks_fly plan past lawful in
        let steps = in_step plan past lawful in
        let none = nothing_pending plan s past linked busy steps (Master m) known lanes beat allowed in
        let counted = counted_free AtMasters (s.flights AtMasters sender).turn (asks plan AtMasters sender past)
        (replies plan AtMasters sender past) (steps AtMasters sender) none in
        let rest = at_rest plan sender (story_at plan sender past) m (s.flights AtMasters sender).turn
        (s.crossings sender) (s.flights AtPorts sender).turn
        (open_before plan s busy (Master m) known lanes beat allowed) (before sender) in
        subst (λ (u : Under). Stands plan sender sent_now (turn_by m (ask_by u beat lanes)) Waiting
        (s.flights AtPorts sender).turn) (sym (linked (Master m)))
        (subst (λ r. Stands plan sender sent_now (turn_by m (if ends_ask_here (Master m) beat then Some r else None))
        Waiting (s.flights AtPorts sender).turn) (sym (ask_is (Master m) beat))
        (master_asks plan sender (story_at plan sender past) m (asked_here (Master m) beat)
        (ends_ask_here (Master m) beat) (s.flights AtPorts sender).turn rest counted))

    master_sends : AllStand plan (state_after plan s (ask_at (Master m) known lanes beat))
        (ask_at (Master m) known lanes beat ∷ past)
    master_sends wide = go (sender == wide) refl
      where
        go : (of : Bool) → (sender == wide) ≡ of → Stands plan wide (record (story_at plan wide past) {
          sent = if of then asks plan AtMasters wide past
              ++ ask_ended plan.layout past (ask_at (Master m) known lanes beat) (A beat)
              else asks plan AtMasters wide past;
          collected = if of then replies plan AtMasters wide past ++ [] else replies plan AtMasters wide past;
        }) (if of then flight_after plan.layout (Master m) (scene_of plan s (Master m) (A beat))
            (A beat) lanes else s.flights AtMasters wide).turn
            (if of then Waiting else s.crossings wide) (s.flights AtPorts wide).turn
        go false is = before wide
        go true is = subst (λ w. Stands plan w (record (story_at plan w past) {
          sent = asks plan AtMasters w past
              ++ ask_ended plan.layout past (ask_at (Master m) known lanes beat) (A beat);
          collected = replies plan AtMasters w past ++ [];
        }) (turn_by m (ask_by (s.links AtMasters m) beat lanes)) Waiting (s.flights AtPorts w).turn)
            (eqb-true sender wide is) own_sent

  module _ (m : ℕ) (beat : ReplyHead) (allowed : IsAllowedReply plan.layout (Master m)
      (scene_of plan s (Master m) (D beat)) beat known lanes) where
    abbrev getter : ℕ
    getter = plan.wide m beat.source

    abbrev got_flight : Flight
    got_flight = (scene_of plan s (Master m) (D beat)).flight

    abbrev got_reply : ReplySeen
    got_reply = reply_here (Master m) beat

    got_answers : (ask : Sent) × ((s.flights AtMasters getter).turn ≡ Asked m ask)
    got_answers =
        let found = asked_at m (s.flights AtMasters getter).turn _ allowed.answers in
        (found.0, found.1)

    got_step : InStep AtMasters (s.flights AtMasters getter).turn (asks plan AtMasters getter past)
        (replies plan AtMasters getter past)
    got_step = in_step plan past lawful AtMasters getter

    got_asked : asks plan AtMasters getter past ≡ got_step.done ++ record { link = Master m; sent = got_answers.0 } ∷ []
    got_asked = got_step.asks_are ∙ ap (λ t. got_step.done ++ pending AtMasters t) got_answers.1

    -- its source is that of the request, since both have this wide source
    got_own : beat.source ≡ got_answers.0.ask.source
    got_own =
        let owned = last_of_all (IsOfMaster plan.layout getter) got_step.done
        (record { link = Master m; sent = got_answers.0 })
        (subst (λ l. AllByRecursion (IsOfMaster plan.layout getter) l) got_asked
        (asks_owned plan is_plan past lawful getter)) in
        (one_owner plan.layout.owners is_plan.owners m beat.source owned.0 got_answers.0.ask.source getter
        (wide_here plan is_plan m beat.source allowed.source) owned.2).1

    got : ends_reply_here (Master m) beat ≡ true → is_out plan getter m got_answers.0 ≡ true
        → IsGot plan getter m got_answers.0 got_reply (s.crossings getter)
    got ends out =
        let route_is : port_in plan m
        (s.flights AtMasters getter).turn ≡ route_of plan m got_answers.0.ask.address got_answers.0.ask.size =
        ap (λ t. port_in plan m t) got_answers.1 in
        let given : is_given plan.layout (Master m) (port_in plan m (s.flights AtMasters getter).turn) ≡ true =
        ap (λ l. are_both l && may_cross plan.layout (port_in plan m (s.flights AtMasters getter).turn)) both
        ∙ ap (λ p. may_cross plan.layout p) route_is ∙ out in
        let wider : ℕ = wider_bus plan.layout (Master m) (port_in plan m (s.flights AtMasters getter).turn) in
        record {
          must = subst (λ p. IsMust true (wider_bus plan.layout (Master m) p) (s.crossings getter) got_flight.due
              (got_here (Master m) beat got_answers.0.ask.address)) route_is
              (subst (λ (r : Pattern). IsMust true wider (s.crossings getter) got_flight.due r)
              (got_is (Master m) beat (s.flights AtMasters getter).turn m got_answers.0 got_answers.1)
              (subst (λ g. IsMust g wider (s.crossings getter) got_flight.due
              (captured (s.links AtMasters m) (s.flights AtMasters getter).turn beat known lanes)) given
              (allowed.ends (ends_is (Master m) beat ∙ ends))));
          own = got_own;
        }

    abbrev got_now : Story
    got_now = record (story_at plan getter past) {
      sent = asks plan AtMasters getter past ++ [];
      collected = replies plan AtMasters getter past
          ++ reply_ended plan.layout past (reply_at (Master m) known lanes beat) (D beat);
    }

    abbrev got_ends : Bool
    got_ends = ends_reply (s.links AtMasters m).bus (s.links AtMasters m).replying beat

    own_got : Stands plan getter got_now (if got_ends then idle else got_flight).turn (s.crossings getter)
        (s.flights AtPorts getter).turn
    own_got =
        let ends = ends_reply_here (Master m) beat in
        let stands : Stands plan getter (story_at plan getter past) (Asked m got_answers.0) (s.crossings getter)
        (s.flights AtPorts getter).turn =
        subst (λ t. Stands plan getter (story_at plan getter past) t (s.crossings getter)
        (s.flights AtPorts getter).turn) got_answers.1 (before getter) in
        let turn_is : (if got_ends then idle else got_flight).turn ≡ (if ends then Idle else Asked m got_answers.0) =
        turn_after got_ends got_flight
        ∙ ap (λ (b : Bool). if b then Idle else (s.flights AtMasters getter).turn) (ends_is (Master m) beat)
        ∙ ap (λ t. if ends then Idle else t) got_answers.1 in
        subst (λ t. Stands plan getter got_now t (s.crossings getter) (s.flights AtPorts getter).turn) (sym turn_is)
        (master_gets plan getter (story_at plan getter past) m got_answers.0 got_step.done
        got_reply (s.crossings getter)
        (s.flights AtPorts getter).turn got_asked got_step.counted stands ends got)

    master_collects : AllStand plan (state_after plan s (reply_at (Master m) known lanes beat))
        (reply_at (Master m) known lanes beat ∷ past)
    master_collects wide = go (getter == wide) refl
      where
        go : (of : Bool) → (getter == wide) ≡ of → Stands plan wide (record (story_at plan wide past) {
          sent = if of then asks plan AtMasters wide past ++ [] else asks plan AtMasters wide past;
          collected = if of then replies plan AtMasters wide past
              ++ reply_ended plan.layout past (reply_at (Master m) known lanes beat) (D beat)
              else replies plan AtMasters wide past;
        }) (if of then flight_after plan.layout (Master m) (scene_of plan s (Master m) (D beat))
            (D beat) lanes else s.flights AtMasters wide).turn
            (if of then s.crossings getter else s.crossings wide) (s.flights AtPorts wide).turn
        go false is = before wide
        go true is = subst (λ w. Stands plan w (record (story_at plan w past) {
          sent = asks plan AtMasters w past ++ [];
          collected = replies plan AtMasters w past
              ++ reply_ended plan.layout past (reply_at (Master m) known lanes beat) (D beat);
        }) (if got_ends then idle else got_flight).turn (s.crossings getter)
            (s.flights AtPorts w).turn) (eqb-true getter wide is) own_got

  -- ---- at ports' links

  module _ (p : ℕ) (crosses : may_cross plan.layout p ≡ true) (beat : AskHead)
      (allowed : IsAllowedAsk plan.layout (Port p) (scene_of plan s (Port p) (A beat)) beat known lanes) where
    abbrev took : ℕ
    took = beat.source

    abbrev took_under : Under
    took_under = s.links AtPorts p

    -- the master whose request is in flight is the one that has the source
    owner_sent : (number : ℕ) (sent : Sent) → (s.flights AtMasters took).turn ≡ Asked number sent → (master : ℕ)
        → IsOf plan.layout.owners master took → number ≡ master
    owner_sent number sent in_flight master owns =
        let step = in_step plan past lawful AtMasters took in
        let owned = last_of_all (IsOfMaster plan.layout took) step.done (record { link = Master number; sent = sent })
        (subst (λ l. AllByRecursion (IsOfMaster plan.layout took) l)
        (step.asks_are ∙ ap (λ t. step.done ++ pending AtMasters t) in_flight) (asks_owned plan is_plan past lawful took)) in
        ap link_number owned.1
        ∙ is_plan.owners.apart owned.0 master took (record { of_one = (sent.ask.source, owned.2); of_other = owns })

    -- the request that ends was sent
    the_sent : ends_ask_here (Port p) beat ≡ true
        → IsTheSent plan took (s.flights AtMasters took).turn (s.crossings took) p (asked_here (Port p) beat)
    the_sent ends =
        let ends_too : ends_ask took_under.bus took_under.asking beat ≡ true =
        ap (λ (u : Under). ends_ask u.bus u.asking beat) (links_are plan past (Port p)) ∙ ends in
        let sent = allowed.sent ends_too both in
        let ask = asked_here (Port p) beat in
        let asked : IsAskedAs plan.layout p (s.flights AtMasters took).turn ask =
        subst (λ (r : Sent). IsAskedAs plan.layout p (s.flights AtMasters took).turn r)
        (ap (λ (u : Under). ask_of u.bus u.asking beat lanes) (links_are plan past (Port p)) ∙ ask_is (Port p) beat)
        sent.0 in
        let found = asked_as plan.layout p (s.flights AtMasters took).turn ask asked in
        let placed : RoutesWide plan.layout took beat.address beat.size p =
        beat_placed plan s (asks_placed_so plan past lawful) (Port p) known lanes beat allowed in
        let route : route_of plan found.0 found.1.ask.address found.1.ask.size ≡ p =
        (λ i. route_of plan (owner_sent found.0 found.1 found.2 placed.master placed.owns i) (sym found.3.address i)
        (sym found.3.size i))
        ∙ route_is plan is_plan placed.master beat.address beat.size p placed.routes in
        record {
          number = found.0;
          sent = found.1;
          in_flight = found.2;
          same = found.3;
          waits = sent.1;
          goes = route;
          out = ap (λ r. may_cross plan.layout r) route ∙ crosses;
          own = refl;
        }

    abbrev took_now : Story
    took_now = record (story_at plan took past) {
      taken = asks plan AtPorts took past ++ ask_ended plan.layout past (ask_at (Port p) known lanes beat) (A beat);
      gave = replies plan AtPorts took past ++ [];
    }

    own_taken : Stands plan took took_now (s.flights AtMasters took).turn
        (if ends_ask took_under.bus took_under.asking beat then Crossed else s.crossings took)
        (turn_by p (ask_by took_under beat lanes))
    own_taken =
        let linked = links_are plan past in
        let busy = asks_fly plan past lawful in
        let steps = in_step plan past lawful in
        let none = nothing_pending plan s past linked busy steps (Port p) known lanes beat allowed in
        let counted = counted_free AtPorts (s.flights AtPorts took).turn (asks plan AtPorts took past)
        (replies plan AtPorts took past) (steps AtPorts took) none in
        let ends = ends_ask_here (Port p) beat in
        subst (λ (u : Under). Stands plan took took_now (s.flights AtMasters took).turn
        (if ends_ask u.bus u.asking beat then Crossed else s.crossings took) (turn_by p (ask_by u beat lanes)))
        (sym (linked (Port p)))
        (subst (λ r. Stands plan took took_now (s.flights AtMasters took).turn
        (if ends then Crossed else s.crossings took) (turn_by p (if ends then Some r else None)))
        (sym (ask_is (Port p) beat))
        (port_asks plan took (story_at plan took past) p (asked_here (Port p) beat)
        (s.flights AtMasters took).turn (s.crossings took) (s.flights AtPorts took).turn none counted (before took)
        ends the_sent))

    port_takes : AllStand plan (state_after plan s (ask_at (Port p) known lanes beat))
        (ask_at (Port p) known lanes beat ∷ past)
    port_takes wide = go (took == wide) refl
      where
        go : (of : Bool) → (took == wide) ≡ of → Stands plan wide (record (story_at plan wide past) {
          taken = if of then asks plan AtPorts wide past
              ++ ask_ended plan.layout past (ask_at (Port p) known lanes beat) (A beat)
              else asks plan AtPorts wide past;
          gave = if of then replies plan AtPorts wide past ++ [] else replies plan AtPorts wide past;
        }) (s.flights AtMasters wide).turn (if of then
            (if ends_ask took_under.bus took_under.asking beat then Crossed else s.crossings took)
            else s.crossings wide)
            (if of then flight_after plan.layout (Port p) (scene_of plan s (Port p) (A beat))
            (A beat) lanes else s.flights AtPorts wide).turn
        go false is = before wide
        go true is = subst (λ w. Stands plan w (record (story_at plan w past) {
          taken = asks plan AtPorts w past ++ ask_ended plan.layout past (ask_at (Port p) known lanes beat) (A beat);
          gave = replies plan AtPorts w past ++ [];
        }) (s.flights AtMasters w).turn
            (if ends_ask took_under.bus took_under.asking beat then Crossed else s.crossings took)
            (turn_by p (ask_by took_under beat lanes))) (eqb-true took wide is) own_taken

  module _ (p : ℕ) (beat : ReplyHead) (allowed : IsAllowedReply plan.layout (Port p)
      (scene_of plan s (Port p) (D beat)) beat known lanes) where
    abbrev giver : ℕ
    giver = beat.source

    abbrev gift_flight : Flight
    gift_flight = (scene_of plan s (Port p) (D beat)).flight

    abbrev gift_reply : ReplySeen
    gift_reply = reply_here (Port p) beat

    -- what is captured, by what the judge keeps
    abbrev gift_got : Pattern
    gift_got = captured (s.links AtPorts p) (s.flights AtPorts giver).turn beat known lanes

    abbrev gift_ends : Bool
    gift_ends = ends_reply (s.links AtPorts p).bus (s.links AtPorts p).replying beat

    gift_answers : (ask : Sent) × ((s.flights AtPorts giver).turn ≡ Asked p ask)
    gift_answers =
        let found = asked_at p (s.flights AtPorts giver).turn _ allowed.answers in
        (found.0, found.1)

    gift_step : InStep AtPorts (s.flights AtPorts giver).turn (asks plan AtPorts giver past)
        (replies plan AtPorts giver past)
    gift_step = in_step plan past lawful AtPorts giver

    gift_asked : asks plan AtPorts giver past ≡ gift_step.done ++ record { link = Port p; sent = gift_answers.0 } ∷ []
    gift_asked = gift_step.asks_are ∙ ap (λ t. gift_step.done ++ pending AtPorts t) gift_answers.1

    gift : ends_reply_here (Port p) beat ≡ true
        → IsItsGift plan giver gift_answers.0 gift_reply gift_got gift_flight.due
    gift ends = record {
      must = allowed.ends (ends_is (Port p) beat ∙ ends);
      is = got_is (Port p) beat (s.flights AtPorts giver).turn p gift_answers.0 gift_answers.1;
    }

    abbrev gift_now : Story
    gift_now = record (story_at plan giver past) {
      taken = asks plan AtPorts giver past ++ [];
      gave = replies plan AtPorts giver past
          ++ reply_ended plan.layout past (reply_at (Port p) known lanes beat) (D beat);
    }

    own_given : Stands plan giver gift_now (s.flights AtMasters giver).turn
        (if gift_ends then given_by gift_flight.due gift_got (s.crossings giver) else s.crossings giver)
        (if gift_ends then idle else gift_flight).turn
    own_given =
        let ends = ends_reply_here (Port p) beat in
        let given = port_gives plan giver (story_at plan giver past) p gift_answers.0 gift_step.done
        gift_reply gift_got (s.flights AtMasters giver).turn (s.crossings giver)
        (s.flights AtPorts giver).turn gift_flight.due
        gift_answers.1 gift_asked gift_step.counted (before giver) ends gift in
        subst (λ (b : Bool). Stands plan giver gift_now (s.flights AtMasters giver).turn
        (if b then given_by gift_flight.due gift_got (s.crossings giver) else s.crossings giver)
        (if b then idle else gift_flight).turn) (sym (ends_is (Port p) beat))
        (subst (λ t. Stands plan giver gift_now (s.flights AtMasters giver).turn
        (if ends then given_by gift_flight.due gift_got (s.crossings giver) else s.crossings giver) t)
        (sym (turn_after ends gift_flight)) given)

    port_answers : AllStand plan (state_after plan s (reply_at (Port p) known lanes beat))
        (reply_at (Port p) known lanes beat ∷ past)
    port_answers wide = go (giver == wide) refl
      where
        go : (of : Bool) → (giver == wide) ≡ of → Stands plan wide (record (story_at plan wide past) {
          taken = if of then asks plan AtPorts wide past ++ [] else asks plan AtPorts wide past;
          gave = if of then replies plan AtPorts wide past
              ++ reply_ended plan.layout past (reply_at (Port p) known lanes beat) (D beat)
              else replies plan AtPorts wide past;
        }) (s.flights AtMasters wide).turn (if of then
            (if gift_ends then given_by gift_flight.due gift_got (s.crossings giver) else s.crossings giver)
            else s.crossings wide)
            (if of then flight_after plan.layout (Port p) (scene_of plan s (Port p) (D beat))
            (D beat) lanes else s.flights AtPorts wide).turn
        go false is = before wide
        go true is = subst (λ w. Stands plan w (record (story_at plan w past) {
          taken = asks plan AtPorts w past ++ [];
          gave = replies plan AtPorts w past
              ++ reply_ended plan.layout past (reply_at (Port p) known lanes beat) (D beat);
        }) (s.flights AtMasters w).turn
            (if gift_ends then given_by gift_flight.due gift_got (s.crossings giver) else s.crossings giver)
            (if gift_ends then idle else gift_flight).turn) (eqb-true giver wide is) own_given

-- ---- all beats

pub all_stand : (plan : Plan) → IsPlan plan → plan.layout.links ≡ Both → (past : List Sighting)
    → AreWatched plan.layout past → IsLawfulGroup plan past → AllStand plan (state plan past) past
all_stand plan is both [] watched lawful = λ wide. record { same = tt; free = refl; given = tt }
all_stand plan is both (x ∷ past) watched lawful =
    go x.link x.beat watched.0.link watched.0.watched lawful.1 (all_stand plan is both past watched.1 lawful.0)
  where
    go : (link : Link) (beat : Beat) → HasLink plan.layout link → IsGroupLink plan.layout link
        → IsAllowed plan (scene_of plan (state plan past) link beat) (seen_at link beat x.known x.lanes)
        → AllStand plan (state plan past) past
        → AllStand plan (state_after plan (state plan past) (seen_at link beat x.known x.lanes))
        (seen_at link beat x.known x.lanes ∷ past)
    go (Master m) (A beat) has seen allowed before =
        master_sends plan is both past lawful.0 before x.known x.lanes m beat allowed
    go (Master m) (D beat) has seen allowed before =
        master_collects plan is both past lawful.0 before x.known x.lanes m beat allowed
    go (Port p) (A beat) has seen allowed before =
        port_takes plan is both past lawful.0 before x.known x.lanes p (crosses_there plan.layout p both has seen) beat allowed
    go (Port p) (D beat) has seen allowed before =
        port_answers plan is both past lawful.0 before x.known x.lanes p beat allowed

-- ---- in words

module _ (plan : Plan) (past : List Sighting) (wide : ℕ)
    (owned : AllByRecursion (IsOfMaster plan.layout wide) (asks plan AtMasters wide past)) where
  abbrev story : Story
  story = story_at plan wide past

  crossing_by : (turn : Turn) (crossing : Crossing) (there : Turn) → Stands plan wide story turn crossing there
      → MessagesCross plan past wide
  crossing_by turn crossing there stands = go turn crossing stands
    where
      full : AllSeen plan.layout wide (sent_out plan (asks plan AtMasters wide past)) (asks plan AtPorts wide past)
          → AreGiven plan.layout wide (answered_from_outside plan (exchanges plan AtMasters wide past))
          (exchanges plan AtPorts wide past) → MessagesCross plan past wide
      full same given = record {
        owned = owned;
        requests = subst (λ l. AreSeenAcross plan.layout wide l (asks plan AtPorts wide past))
            (append-nil (sent_out plan (asks plan AtMasters wide past)))
            (seen_but_one plan.layout wide (sent_out plan (asks plan AtMasters wide past)) (asks plan AtPorts wide past) [] same
            (omega arith));
        given = given;
      }

      none : (given : List (AskSeen × ReplySeen))
          → AreGiven plan.layout wide (answered_from_outside plan (exchanges plan AtMasters wide past)) (given ++ [])
          → AreGiven plan.layout wide (answered_from_outside plan (exchanges plan AtMasters wide past)) given
      none given is = subst (λ l. AreGiven plan.layout wide (answered_from_outside plan (exchanges plan AtMasters wide past)) l)
          (append-nil given) is

      rest : IsAtRest plan wide story there → MessagesCross plan past wide
      rest stands = full stands.same (none (exchanges plan AtPorts wide past)
          (given_but_one plan.layout wide (answered_from_outside plan (exchanges plan AtMasters wide past))
          (exchanges plan AtPorts wide past) [] stands.given (omega arith)))

      out : (out : Bool) (n port : ℕ) (ask : Sent) (crossing : Crossing)
          → IsOut plan wide story out n port ask crossing there → MessagesCross plan past wide
      out false n port ask crossing stands = rest stands
      out true n port ask Waiting stands = record {
        owned = owned;
        requests = subst (λ l. AreSeenAcross plan.layout wide l (asks plan AtPorts wide past)) (sym stands.split)
            (seen_but_one plan.layout wide stands.front (asks plan AtPorts wide past)
            (record { link = Master n; sent = ask } ∷ []) stands.same (omega arith));
        given = none (exchanges plan AtPorts wide past)
            (given_but_one plan.layout wide (answered_from_outside plan (exchanges plan AtMasters wide past))
            (exchanges plan AtPorts wide past) [] stands.given (omega arith));
      }
      out true n port ask Crossed stands =
          full stands.same (none (exchanges plan AtPorts wide past)
          (given_but_one plan.layout wide (answered_from_outside plan (exchanges plan AtMasters wide past))
          (exchanges plan AtPorts wide past) [] stands.given (omega arith)))
      out true n port ask (Given answer) stands = full stands.same
          (subst (λ l. AreGiven plan.layout wide (answered_from_outside plan (exchanges plan AtMasters wide past)) l)
          (sym stands.split)
          (given_but_one plan.layout wide (answered_from_outside plan (exchanges plan AtMasters wide past)) stands.front
          (stands.last ∷ []) stands.given (omega arith)))

      go : (turn : Turn) (crossing : Crossing) → Stands plan wide story turn crossing there
          → MessagesCross plan past wide
      go Idle crossing stands = rest stands
      go (Asking n) crossing stands = rest stands
      go (Asked n ask) crossing stands = out (is_out plan wide n ask) n (goes_to plan wide n ask) ask crossing stands

pub crossing : (plan : Plan) (past : List Sighting) → IsPlan plan → plan.layout.links ≡ Both
    → AreWatched plan.layout past → IsLawfulGroup plan past → (wide : ℕ) → MessagesCross plan past wide
crossing plan past is both watched lawful wide =
    let s = state plan past in
    crossing_by plan past wide (asks_owned plan is past lawful wide) (s.flights AtMasters wide).turn (s.crossings wide)
    (s.flights AtPorts wide).turn (all_stand plan is both past watched lawful wide)
