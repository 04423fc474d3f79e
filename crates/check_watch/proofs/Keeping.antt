-- What is kept of the past, after one beat more.
use Rattle.std.proofs.Common.{◌≡◌, ◌∙◌, ℕ, ◌<◌, Bool, true, false, if◌then◌else◌, List, ◌∷◌, length, Option, Some, None, slice_get, unwrap_or, refl, ap, sym, subst, eqb-true, length-set}
use Rattle.std.specs.Prelude.{slice_set, ◌==◌, ◌&&◌, Result, Ok, Err, OnOk, IfErr}
use Rattle.std.proofs.lemmas.Bool.{eqb-false}
use Rattle.check_cells.specs.Sent.{Sent}
use Rattle.tl_types.proofs.Lists.{slice_get-set_same, slice_get-set_other}
use Rattle.check_cells.specs.Pattern.{Pattern}
use Rattle.check_beats.specs.State.{Under, nothing_under, ends_ask, ends_reply}
use Rattle.check_beats.specs.declared.beat.AskHead.{AskHead}
use Rattle.check_beats.specs.declared.beat.ReplyHead.{ReplyHead}
use Rattle.check_flight.specs.declared.answer.Answer.{Answer}
use Rattle.check_flight.specs.declared.place.FlightPlace.{FlightPlace}
use Rattle.check_flight.specs.Crossing.{Crossing}
use Rattle.check_flight.specs.Crossing.Crossing.{Waiting, Crossed, Given}
use Rattle.check_flight.specs.Flight.{Flight, idle, flight_due}
use Rattle.check_flight.specs.PortSlave.{PortSlave, accepting, answering}
use Rattle.check_flight.specs.Side.{under_at, flight_at, flights_due, ask_crossed, reply_crossed}
use Rattle.check_watch.specs.declared.beat.Beat.{Beat}
use Rattle.check_watch.specs.declared.beat.Beat.TheVariants.{A, D}
use Rattle.check_watch.specs.declared.beat.Link.{Link}
use Rattle.check_watch.specs.declared.beat.Link.TheVariants.{Master, Port}
use Rattle.check_watch.specs.declared.fault.Fault.{Fault}
use Rattle.check_watch.specs.declared.fault.Fault.TheVariants as faults
use Rattle.check_watch.specs.declared.fault.Reason.{Reason}
use Rattle.check_watch.specs.declared.fault.Reason.TheVariants.{WrongReply}
use Rattle.check_watch.specs.Faults.{IsFirstReplyReason, IsWrongReply, reason_of}
use Rattle.check_watch.specs.Lawful.{IsLawfulGroup, GroupMayNeedMemory, IsAllowedBeat, IsFirstReasonOf, IsFirstReason, IsFirstGroupFault, TellsReplies}
use Rattle.check_watch.specs.Past.{State, no_slave, slave_at, port_of, scene_found, scene_of, state_after, state, scene_in_group}
use Rattle.check_watch.specs.Plan.{Layout, Plan, Sighting, LinkSide, HasLink, side_of, link_number, source_of, wide_of, same_side, is_link, is_of, seen_at}
use Rattle.check_watch.specs.Plan.LinkSide.{AtMasters, AtPorts}
use Rattle.check_watch.specs.Scene.{Scene, ask_by, under_after, accepted, once_answered, flight_after, crossing_after, given_by, captured, SlaveMayNeed}
use Rattle.check_watch.specs.View.{GroupView, IsSized, wides_in, KeepsGroup, AreSame, IsPlace, state_in, side_in, own_side, crossing_at, under_in, flight_in, scene_in, slaves_accepting, slaves_answering, crossings_taken, crossings_asked, crossings_given, crossings_replied, accepted_in, answered_in, late_answer, asked_flight, with_side, with_ask, with_late, with_part, with_end, with_reply, MayNeedToAccept, MayNeedToAnswer}
use Rattle.check_watch.proofs.Judging.{wide_is, no_ask_reason}
use Rattle.check_watch.proofs.Replying.{no_reply_reason}

-- ---- lists

-- what stands at a place after one place is written
set_at : {X : Type 0} (d : X) (xs : List X) (k j : ℕ) (x : X) → k < length xs
    → unwrap_or (slice_get (slice_set xs k x) j) d ≡ (if k == j then x else unwrap_or (slice_get xs j) d)
set_at {X} d xs k j x within = go (k == j) refl
  where
    go : (same : Bool) → (k == j) ≡ same → unwrap_or (slice_get (slice_set xs k x) j) d ≡
        (if same then x else unwrap_or (slice_get xs j) d)
    go true is = let e = eqb-true k j is in rw (← e) (ap (λ o. unwrap_or o d) (slice_get-set_same xs k x within))
    go false is = ap (λ o. unwrap_or o d) (slice_get-set_other xs k j x (eqb-false k j is))

-- what stands at a place after none is written
stays : {X : Type 0} (f : ℕ → X) (k j : ℕ) → f j ≡ (if k == j then f k else f j)
stays {X} f k j = go (k == j) refl
  where
    go : (same : Bool) → (k == j) ≡ same → f j ≡ (if same then f k else f j)
    go true is = ap f (sym (eqb-true k j is))
    go false is = refl

slaves_accept : (slaves : List PortSlave) (port wide p : ℕ) (ask : Option Sent) → port < length slaves
    → slave_at (slaves_accepting slaves port wide ask) p ≡
    (if port == p then accepting (slave_at slaves port) wide ask else slave_at slaves p)
slaves_accept slaves port wide p None within = stays (λ k. slave_at slaves k) port p
slaves_accept slaves port wide p (Some ask) within =
    set_at no_slave slaves port p (accepting (slave_at slaves port) wide (Some ask)) within

slaves_answer : (slaves : List PortSlave) (port wide p : ℕ) (ask : Option Sent) → port < length slaves
    → slave_at (slaves_answering slaves port wide ask) p ≡
    (if port == p then answering (slave_at slaves port) wide ask else slave_at slaves p)
slaves_answer slaves port wide p None within = stays (λ k. slave_at slaves k) port p
slaves_answer slaves port wide p (Some ask) within =
    set_at no_slave slaves port p (answering (slave_at slaves port) wide (Some ask)) within

taken_set : (crossings : List Crossing) (wide w : ℕ) (ends : Bool) → wide < length crossings
    → crossing_at (crossings_taken crossings wide ends) w ≡
    (if wide == w then (if ends then Crossed else crossing_at crossings wide) else crossing_at crossings w)
taken_set crossings wide w true within = set_at Waiting crossings wide w Crossed within
taken_set crossings wide w false within = stays (λ k. crossing_at crossings k) wide w

given_set : (crossings : List Crossing) (wide w : ℕ) (due : Option Answer) (reply : Pattern) → wide < length crossings
    → crossing_at (crossings_given crossings wide due reply) w ≡
    (if wide == w then given_by due reply (crossing_at crossings wide) else crossing_at crossings w)
given_set crossings wide w None reply within = stays (λ k. crossing_at crossings k) wide w
given_set crossings wide w (Some answer) reply within =
    set_at Waiting crossings wide w (Given (record answer { reply = reply })) within

due_set : (flights : List Flight) (wide w : ℕ) (answer : Option Answer) → wide < length flights
    → flight_at (flights_due flights wide answer) w ≡
    (if wide == w then flight_due (flight_at flights wide) answer else flight_at flights w)
due_set flights wide w None within = stays (λ k. flight_at flights k) wide w
due_set flights wide w (Some answer) within =
    set_at idle flights wide w (flight_due (flight_at flights wide) (Some answer)) within

due_length : (flights : List Flight) (wide : ℕ) (answer : Option Answer)
    → length (flights_due flights wide answer) ≡ length flights
due_length flights wide None = refl
due_length flights wide (Some answer) = length-set flights wide (flight_due (flight_at flights wide) (Some answer))

if_twice : {X : Type 0} (c : Bool) (p q r : X) → (if c then p else (if c then q else r)) ≡ (if c then p else r)
if_twice true p q r = refl
if_twice false p q r = refl

-- at a place where it stands, the first of two answers
if_here : {X : Type 0} (k : ℕ) (p q : X) → (if k == k then p else q) ≡ p
if_here {X} k p q = go (k == k) refl
  where
    go : (same : Bool) → (k == k) ≡ same → (if same then p else q) ≡ p
    go true is = refl
    go false is = absurd (eqb-false k k is refl)

-- nothing is in flight of a wide source any more
ended : (flights : List Flight) (wide w : ℕ) (answer : Option Answer) → wide < length flights
    → flight_at (slice_set (flights_due flights wide answer) wide idle) w ≡
    (if wide == w then idle else flight_at flights w)
ended flights wide w answer within =
    set_at idle (flights_due flights wide answer) wide w idle (rw (due_length flights wide answer) within)
    ∙ ap (λ (f : Flight). if wide == w then idle else f) (due_set flights wide w answer within)
    ∙ if_twice (wide == w) idle (flight_due (flight_at flights wide) answer) (flight_at flights w)

-- ---- room

pub record HasRoom (view : GroupView) (link : Link) (wide port : ℕ) : Type 0 where
  pub at_link : link_number link < length (own_side view link).links
  pub in_flight : wide < length (own_side view link).flights
  pub crossing : wide < length view.crossings
  pub slave : port < length view.slaves

pub room_of : (view : GroupView) (link : Link) (wide port : ℕ) → IsSized view → HasLink view.layout link
    → wide < wides_in view → port < length view.slaves → HasRoom view link wide port
room_of view (Master m) wide port sized has within slot = record {
  at_link = rw sized.masters has;
  in_flight = rw sized.at_masters within;
  crossing = within;
  slave = slot;
}
room_of view (Port p) wide port sized has within slot = record {
  at_link = rw sized.ports has;
  in_flight = rw sized.at_ports within;
  crossing = within;
  slave = slot;
}

-- ---- one side is written

module _ (view : GroupView) (link : Link) (wide port : ℕ) (room : HasRoom view link wide port) where
  -- what is under way at each link
  links_put : (under : Under) (flights : List Flight) (side : LinkSide) (k : ℕ)
      → under_at (side_in (with_side view link (record {
        links = slice_set (own_side view link).links (link_number link) under;
        flights = flights;
      })) side).links k
      ≡ (if is_link link side k then under else under_at (side_in view side).links k)
  links_put = go link room.at_link
    where
      go : (link : Link) → link_number link < length (own_side view link).links
          → (under : Under) (flights : List Flight) (side : LinkSide) (k : ℕ)
          → under_at (side_in (with_side view link (record {
            links = slice_set (own_side view link).links (link_number link) under;
            flights = flights;
          })) side).links k
          ≡ (if is_link link side k then under else under_at (side_in view side).links k)
      go (Master m) within under flights AtMasters k = set_at (nothing_under 1) view.masters.links m k under within
      go (Master m) within under flights AtPorts k = refl
      go (Port p) within under flights AtMasters k = refl
      go (Port p) within under flights AtPorts k = set_at (nothing_under 1) view.ports.links p k under within

  -- what is in flight of each wide source, where these are what is in flight on the side of the link
  flights_put : (links : List Under) (flights : List Flight) (own : Flight)
      → ((w : ℕ) → flight_at flights w ≡ (if wide == w then own else flight_at (own_side view link).flights w))
      → (side : LinkSide) (w : ℕ)
      → flight_at (side_in (with_side view link (record { links = links; flights = flights })) side).flights w
      ≡ (if (same_side (side_of link) side && (wide == w)) then own else flight_at (side_in view side).flights w)
  flights_put = go link
    where
      go : (link : Link) (links : List Under) (flights : List Flight) (own : Flight)
          → ((w : ℕ) → flight_at flights w ≡ (if wide == w then own else flight_at (own_side view link).flights w))
          → (side : LinkSide) (w : ℕ)
          → flight_at (side_in (with_side view link (record { links = links; flights = flights })) side).flights w
          ≡ (if (same_side (side_of link) side && (wide == w)) then own else flight_at (side_in view side).flights w)
      go (Master m) links flights own is AtMasters w = is w
      go (Master m) links flights own is AtPorts w = refl
      go (Port p) links flights own is AtMasters w = refl
      go (Port p) links flights own is AtPorts w = is w

-- ---- a beat, at this wide source and port

-- what a beat finds there
abbrev found_at : GroupView → Link → ℕ → ℕ → Scene
found_at view link wide port = record {
  under = under_in view link;
  wide = wide;
  flight = flight_in view link wide;
  sent = (flight_at view.masters.flights wide).turn;
  crossing = crossing_at view.crossings wide;
  port = port;
  slave = slave_at view.slaves port;
}

-- what it leaves
abbrev after_at : Layout → GroupView → Sighting → ℕ → ℕ → State
after_at layout view x wide port =
    let here = once_answered layout x.link (found_at view x.link wide port) x.beat in
    record {
      links = λ side k. if is_link x.link side k
          then under_after here.under x.beat x.known x.lanes else under_at (side_in view side).links k;
      flights = λ side w. if (same_side (side_of x.link) side && (wide == w))
          then flight_after layout x.link here x.beat x.lanes else flight_at (side_in view side).flights w;
      crossings = λ w. if wide == w
          then crossing_after x.link here x.beat x.known x.lanes else crossing_at view.crossings w;
      slaves = λ p. if here.port == p
          then accepting here.slave here.wide (accepted layout x.link here x.beat x.lanes)
          else slave_at view.slaves p;
    }

-- ---- how far requests have come across

asked_across : (link : Link) (here : Scene) (beat : AskHead) (known : ℕ) (lanes : List ℕ) (crossings : List Crossing)
    (wide w : ℕ) → wide < length crossings → here.crossing ≡ crossing_at crossings wide
    → crossing_at (crossings_asked crossings link wide (ends_ask here.under.bus here.under.asking beat)) w
    ≡ (if wide == w then crossing_after link here (A beat) known lanes else crossing_at crossings w)
asked_across (Master m) here beat known lanes crossings wide w within is = set_at Waiting crossings wide w Waiting within
asked_across (Port p) here beat known lanes crossings wide w within is =
    rw is (taken_set crossings wide w (ends_ask here.under.bus here.under.asking beat) within)

part_across : (link : Link) (here : Scene) (beat : ReplyHead) (known : ℕ) (lanes : List ℕ) (crossings : List Crossing)
    (wide w : ℕ) → here.crossing ≡ crossing_at crossings wide
    → ends_reply here.under.bus here.under.replying beat ≡ false
    → crossing_at crossings w
    ≡ (if wide == w then crossing_after link here (D beat) known lanes else crossing_at crossings w)
part_across (Master m) here beat known lanes crossings wide w is goes_on =
    rw is (stays (λ k. crossing_at crossings k) wide w)
part_across (Port p) here beat known lanes crossings wide w is goes_on =
    rw (goes_on, is) (stays (λ k. crossing_at crossings k) wide w)

end_across : (link : Link) (here : Scene) (beat : ReplyHead) (known : ℕ) (lanes : List ℕ) (crossings : List Crossing)
    (wide w : ℕ) → wide < length crossings → here.crossing ≡ crossing_at crossings wide
    → ends_reply here.under.bus here.under.replying beat ≡ true
    → crossing_at (crossings_replied crossings link wide here.flight.due
    (captured here.under here.flight.turn beat known lanes)) w
    ≡ (if wide == w then crossing_after link here (D beat) known lanes else crossing_at crossings w)
end_across (Master m) here beat known lanes crossings wide w within is ends =
    rw is (stays (λ k. crossing_at crossings k) wide w)
end_across (Port p) here beat known lanes crossings wide w within is ends =
    rw (ends, is) (given_set crossings wide w here.flight.due
    (captured here.under here.flight.turn beat known lanes) within)

-- ---- a beat of a request

module _ (view : GroupView) (link : Link) (wide port : ℕ) (room : HasRoom view link wide port) (known : ℕ) (lanes : List ℕ)
  where
    after_ask : (beat : AskHead) → AreSame (state_in (with_ask view link wide port beat lanes))
        (after_at view.layout view (seen_at link (A beat) known lanes) wide port)
    after_ask beat = record {
      links = links;
      flights = flights;
      crossings = λ w. asked_across link (found_at view link wide port) beat known lanes view.crossings wide w
          room.crossing refl;
      slaves = λ p. slaves_accept view.slaves port wide p
          (accepted_in view link port (ask_by (under_in view link) beat lanes)) room.slave;
    }
      where
        links : (side : LinkSide) (k : ℕ) → under_at (side_in (with_ask view link wide port beat lanes) side).links k
            ≡ (if is_link link side k then ask_crossed (under_in view link) beat lanes
            else under_at (side_in view side).links k)
        links AtMasters k = links_put view link wide port room (ask_crossed (under_in view link) beat lanes)
            (slice_set (own_side view link).flights wide
            (asked_flight view link port (ask_by (under_in view link) beat lanes))) AtMasters k
        links AtPorts k = links_put view link wide port room (ask_crossed (under_in view link) beat lanes)
            (slice_set (own_side view link).flights wide
            (asked_flight view link port (ask_by (under_in view link) beat lanes))) AtPorts k

        put : (w : ℕ) → flight_at (slice_set (own_side view link).flights wide
            (asked_flight view link port (ask_by (under_in view link) beat lanes))) w
            ≡ (if wide == w then asked_flight view link port (ask_by (under_in view link) beat lanes)
            else flight_at (own_side view link).flights w)
        put w = set_at idle (own_side view link).flights wide w
            (asked_flight view link port (ask_by (under_in view link) beat lanes)) room.in_flight

        flights : (side : LinkSide) (w : ℕ) → flight_at (side_in (with_ask view link wide port beat lanes) side).flights w
            ≡ (if (same_side (side_of link) side && (wide == w))
            then asked_flight view link port (ask_by (under_in view link) beat lanes)
            else flight_at (side_in view side).flights w)
        flights AtMasters w = flights_put view link wide port room _ _ _ put AtMasters w
        flights AtPorts w = flights_put view link wide port room _ _ _ put AtPorts w

    -- ---- a beat of a reply

    -- what it finds in flight, once the slave has answered
    abbrev flight_late : Flight
    flight_late = flight_due (flight_in view link wide) (late_answer view link wide port)

    -- what is kept of the side of its link then
    abbrev late_flights : List Flight
    late_flights = flights_due (own_side view link).flights wide (late_answer view link wide port)

    -- a beat crosses there, and this is in flight from then on
    abbrev put_reply : ReplyHead → List Flight → List Crossing → GroupView
    put_reply beat flights crossings = record (with_side view link (record {
      links = slice_set (own_side view link).links (link_number link)
          (reply_crossed (under_in view link) beat known lanes);
      flights = flights;
    })) { crossings = crossings; slaves = slaves_answering view.slaves port wide (answered_in view link wide port) }

    after_reply : (beat : ReplyHead) (flights : List Flight) (crossings : List Crossing)
        → ((w : ℕ) → flight_at flights w
        ≡ (if wide == w then (if ends_reply (under_in view link).bus (under_in view link).replying beat then idle
        else flight_late) else flight_at (own_side view link).flights w))
        → ((w : ℕ) → crossing_at crossings w
        ≡ (if wide == w then crossing_after link
        (once_answered view.layout link (found_at view link wide port) (D beat)) (D beat) known lanes
        else crossing_at view.crossings w))
        → AreSame (state_in (put_reply beat flights crossings))
        (after_at view.layout view (seen_at link (D beat) known lanes) wide port)
    after_reply beat flights crossings put across = record {
      links = links_at;
      flights = flights_at;
      crossings = across;
      slaves = λ p. slaves_answer view.slaves port wide p (answered_in view link wide port) room.slave;
    }
      where
        links_at : (side : LinkSide) (k : ℕ) → under_at (side_in (put_reply beat flights crossings) side).links k
            ≡ (if is_link link side k then reply_crossed (under_in view link) beat known lanes
            else under_at (side_in view side).links k)
        links_at AtMasters k = links_put view link wide port room (reply_crossed (under_in view link) beat known lanes)
            flights AtMasters k
        links_at AtPorts k = links_put view link wide port room (reply_crossed (under_in view link) beat known lanes)
            flights AtPorts k

        flights_at : (side : LinkSide) (w : ℕ) → flight_at (side_in (put_reply beat flights crossings) side).flights w
            ≡ (if (same_side (side_of link) side && (wide == w))
            then (if ends_reply (under_in view link).bus (under_in view link).replying beat then idle else flight_late)
            else flight_at (side_in view side).flights w)
        flights_at AtMasters w = flights_put view link wide port room _ _ _ put AtMasters w
        flights_at AtPorts w = flights_put view link wide port room _ _ _ put AtPorts w

    after_part : (beat : ReplyHead) → ends_reply (under_in view link).bus (under_in view link).replying beat ≡ false
        → AreSame (state_in (put_reply beat late_flights view.crossings))
        (after_at view.layout view (seen_at link (D beat) known lanes) wide port)
    after_part beat goes_on =
        after_reply beat late_flights view.crossings
        (λ w. rw goes_on (due_set (own_side view link).flights wide w (late_answer view link wide port) room.in_flight))
        (λ w. part_across link (once_answered view.layout link (found_at view link wide port) (D beat)) beat known lanes
        view.crossings wide w refl goes_on)

    after_end : (beat : ReplyHead) → ends_reply (under_in view link).bus (under_in view link).replying beat ≡ true
        → AreSame (state_in (put_reply beat (slice_set late_flights wide idle)
        (crossings_replied view.crossings link wide flight_late.due
        (captured (under_in view link) flight_late.turn beat known lanes))))
        (after_at view.layout view (seen_at link (D beat) known lanes) wide port)
    after_end beat ends =
        after_reply beat (slice_set late_flights wide idle)
        (crossings_replied view.crossings link wide flight_late.due
        (captured (under_in view link) flight_late.turn beat known lanes))
        (λ w. rw ends (ended (own_side view link).flights wide w (late_answer view link wide port) room.in_flight))
        (λ w. end_across link (once_answered view.layout link (found_at view link wide port) (D beat)) beat known lanes
        view.crossings wide w room.crossing refl ends)

    -- ---- the steps of a judge are these

    late_found : flight_at late_flights wide ≡ flight_late
    late_found =
        due_set (own_side view link).flights wide wide (late_answer view link wide port) room.in_flight
        ∙ if_here wide flight_late (flight_at (own_side view link).flights wide)

part_is : (view : GroupView) (link : Link) (wide port : ℕ) (room : HasRoom view link wide port) (known : ℕ)
    (lanes : List ℕ) (beat : ReplyHead)
    → with_part (with_late view link wide port) link beat known lanes
    ≡ put_reply view link wide port room known lanes beat (late_flights view link wide port room known lanes)
    view.crossings
part_is view (Master m) wide port room known lanes beat = refl
part_is view (Port p) wide port room known lanes beat = refl

end_is : (view : GroupView) (link : Link) (wide port : ℕ) (room : HasRoom view link wide port) (known : ℕ)
    (lanes : List ℕ) (beat : ReplyHead)
    → with_end (with_late view link wide port) link wide beat known lanes
    ≡ put_reply view link wide port room known lanes beat
    (slice_set (late_flights view link wide port room known lanes) wide idle)
    (crossings_replied view.crossings link wide
    (flight_at (late_flights view link wide port room known lanes) wide).due
    (captured (under_in view link) (flight_at (late_flights view link wide port room known lanes) wide).turn
    beat known lanes))
end_is view (Master m) wide port room known lanes beat = refl
end_is view (Port p) wide port room known lanes beat = refl

module _ (view : GroupView) (link : Link) (wide port : ℕ) (room : HasRoom view link wide port) (known : ℕ) (lanes : List ℕ)
  where
    after_with_reply : (beat : ReplyHead) → AreSame (state_in (with_reply view link wide port beat known lanes))
        (after_at view.layout view (seen_at link (D beat) known lanes) wide port)
    after_with_reply beat = go (ends_reply (under_in view link).bus (under_in view link).replying beat) refl
      where
        Same : GroupView → Type 0
        Same v = AreSame (state_in v) (after_at view.layout view (seen_at link (D beat) known lanes) wide port)

        go : (ends : Bool) → ends_reply (under_in view link).bus (under_in view link).replying beat ≡ ends
            → Same (if ends then with_end (with_late view link wide port) link wide beat known lanes
            else with_part (with_late view link wide port) link beat known lanes)
        go true is =
            let late = late_found view link wide port room known lanes in
            subst Same (sym (end_is view link wide port room known lanes beat
            ∙ ap (λ (f : Flight). put_reply view link wide port room known lanes beat
            (slice_set (late_flights view link wide port room known lanes) wide idle)
            (crossings_replied view.crossings link wide f.due (captured (under_in view link) f.turn beat known lanes)))
            late))
            (after_end view link wide port room known lanes beat is)
        go false is =
            subst Same (sym (part_is view link wide port room known lanes beat))
            (after_part view link wide port room known lanes beat is)

-- ---- states that say the same

same_found : (plan : Plan) (a b : State) (link : Link) (beat : Beat) → AreSame a b
    → scene_found plan a link beat ≡ scene_found plan b link beat
same_found plan a b link beat same =
    let side = side_of link in
    let wide = wide_of plan link (source_of beat) in
    let port = port_of plan link (b.flights side wide).turn beat in
    rw (
      same.links side (link_number link),
      same.flights side wide,
      same.flights AtMasters wide,
      same.crossings wide,
      same.slaves port,
    ) refl

same_scene : (plan : Plan) (a b : State) (link : Link) (beat : Beat) → AreSame a b
    → scene_of plan a link beat ≡ scene_of plan b link beat
same_scene plan a b link beat same =
    ap (λ (s : Scene). once_answered plan.layout link s beat) (same_found plan a b link beat same)

if_same : {X : Type 0} (c : Bool) (p q r s : X) → p ≡ q → r ≡ s → (if c then p else r) ≡ (if c then q else s)
if_same true p q r s first second = first
if_same false p q r s first second = second

same_after : (plan : Plan) (a b : State) (x : Sighting) → AreSame a b
    → AreSame (state_after plan a x) (state_after plan b x)
same_after plan a b x same =
    let here = same_scene plan a b x.link x.beat same in
    record {
      links = λ side number. if_same (is_link x.link side number) _ _ _ _
          (ap (λ (s : Scene). under_after s.under x.beat x.known x.lanes) here) (same.links side number);
      flights = λ side wide. if_same (is_of plan x side wide) _ _ _ _
          (ap (λ (s : Scene). flight_after plan.layout x.link s x.beat x.lanes) here) (same.flights side wide);
      crossings = λ wide. if_same (wide_of plan x.link (source_of x.beat) == wide) _ _ _ _
          (ap (λ (s : Scene). crossing_after x.link s x.beat x.known x.lanes) here) (same.crossings wide);
      slaves = λ port. ap (λ (s : Scene). if s.port == port then accepting s.slave s.wide
          (accepted plan.layout x.link s x.beat x.lanes) else a.slaves port) here
          ∙ if_same ((scene_of plan b x.link x.beat).port == port) _ _ _ _ refl (same.slaves port);
    }

same_trans : (a b c : State) → AreSame a b → AreSame b c → AreSame a c
same_trans a b c first second = record {
  links = λ side number. first.links side number ∙ second.links side number;
  flights = λ side wide. first.flights side wide ∙ second.flights side wide;
  crossings = λ wide. first.crossings wide ∙ second.crossings wide;
  slaves = λ port. first.slaves port ∙ second.slaves port;
}

-- ---- the past, and one beat more

pub layout_ask : (view : GroupView) (link : Link) (wide port : ℕ) (beat : AskHead) (lanes : List ℕ)
    → (with_ask view link wide port beat lanes).layout ≡ view.layout
layout_ask view (Master m) wide port beat lanes = refl
layout_ask view (Port p) wide port beat lanes = refl

pub layout_reply : (view : GroupView) (link : Link) (wide port : ℕ) (beat : ReplyHead) (known : ℕ) (lanes : List ℕ)
    → (with_reply view link wide port beat known lanes).layout ≡ view.layout
layout_reply view link wide port beat known lanes =
    go link (ends_reply (under_in view link).bus (under_in view link).replying beat)
  where
    go : (link : Link) (ends : Bool)
        → (if ends then with_end (with_late view link wide port) link wide beat known lanes
        else with_part (with_late view link wide port) link beat known lanes).layout ≡ view.layout
    go (Master m) true = refl
    go (Master m) false = refl
    go (Port p) true = refl
    go (Port p) false = refl

module _ (plan : Plan) (past : List Sighting) (view : GroupView) (x : Sighting) (keeps : KeepsGroup plan past view) where
  -- what is said of the layout and of what a beat finds is said of the plan and of what it finds after the past
  pub carried : (Q : Layout → Scene → Type 0) → Q view.layout (scene_in plan view x.link x.beat)
      → Q plan.layout (scene_in_group plan past x)
  carried Q here =
      subst (λ (s : Scene). Q plan.layout s)
      (same_scene plan (state_in view) (state plan past) x.link x.beat keeps.state)
      (subst (λ (l : Layout). Q l (scene_in plan view x.link x.beat)) keeps.suits.layout here)

  -- the same the other way
  pub found : (Q : Layout → Scene → Type 0) → Q plan.layout (scene_in_group plan past x)
      → Q view.layout (scene_in plan view x.link x.beat)
  found Q there = carried (λ l s. Q l s → Q view.layout (scene_in plan view x.link x.beat)) (λ q. q) there

  keeps_next : (new : GroupView) → new.layout ≡ view.layout → AreSame (state_in new) (state_after plan (state_in view) x)
      → IsLawfulGroup plan (x ∷ past) → KeepsGroup plan (x ∷ past) new
  keeps_next new layout same lawful = record {
    suits = record { lawful = keeps.suits.lawful; layout = layout ∙ keeps.suits.layout };
    lawful = lawful;
    state = same_trans (state_in new) (state_after plan (state_in view) x) (state plan (x ∷ past)) same
        (same_after plan (state_in view) (state plan past) x keeps.state);
  }

module _ (plan : Plan) (past : List Sighting) (view new : GroupView) (link : Link) (known : ℕ) (lanes : List ℕ)
    (place : FlightPlace) (keeps : KeepsGroup plan past view) (sized : IsSized view) (has : HasLink view.layout link) where
  pub ask_keeps : (beat : AskHead) → IsPlace view link (A beat) place
      → IsLawfulGroup plan (seen_at link (A beat) known lanes ∷ past)
      → new ≡ with_ask view link place.wide place.port beat lanes
      → KeepsGroup plan (seen_at link (A beat) known lanes ∷ past) new
  ask_keeps beat at lawful is =
      let x : Sighting = seen_at link (A beat) known lanes in
      let room = room_of view link place.wide place.port sized has at.in_limit at.in_ports in
      let made = with_ask view link place.wide place.port beat lanes in
      let R : Layout → ℕ → ℕ → Type 0 = λ l w p. AreSame (state_in made) (after_at l view x w p) in
      let same : AreSame (state_in made) (state_after plan (state_in view) x) =
      subst (λ (w : ℕ). R plan.layout w (port_of plan link (flight_in view link w).turn (A beat)))
      (wide_is plan view link beat.source place.wide keeps.suits at.wide)
      (subst (λ (p : ℕ). R plan.layout place.wide p) (at.port plan keeps.suits)
      (subst (λ (l : Layout). R l place.wide place.port) keeps.suits.layout
      (after_ask view link place.wide place.port room known lanes beat))) in
      keeps_next plan past view x keeps new (ap (λ (v : GroupView). v.layout) is ∙ layout_ask view link _ _ beat lanes)
      (subst (λ (v : GroupView). AreSame (state_in v) (state_after plan (state_in view) x)) (sym is) same) lawful

  pub reply_keeps : (beat : ReplyHead) → IsPlace view link (D beat) place
      → IsLawfulGroup plan (seen_at link (D beat) known lanes ∷ past)
      → new ≡ with_reply view link place.wide place.port beat known lanes
      → KeepsGroup plan (seen_at link (D beat) known lanes ∷ past) new
  reply_keeps beat at lawful is =
      let x : Sighting = seen_at link (D beat) known lanes in
      let room = room_of view link place.wide place.port sized has at.in_limit at.in_ports in
      let made = with_reply view link place.wide place.port beat known lanes in
      let R : Layout → ℕ → ℕ → Type 0 = λ l w p. AreSame (state_in made) (after_at l view x w p) in
      let same : AreSame (state_in made) (state_after plan (state_in view) x) =
      subst (λ (w : ℕ). R plan.layout w (port_of plan link (flight_in view link w).turn (D beat)))
      (wide_is plan view link beat.source place.wide keeps.suits at.wide)
      (subst (λ (p : ℕ). R plan.layout place.wide p) (at.port plan keeps.suits)
      (subst (λ (l : Layout). R l place.wide place.port) keeps.suits.layout
      (after_with_reply view link place.wide place.port room known lanes beat))) in
      keeps_next plan past view x keeps new (ap (λ (v : GroupView). v.layout) is ∙ layout_reply view link _ _ beat known lanes)
      (subst (λ (v : GroupView). AreSame (state_in v) (state_after plan (state_in view) x)) (sym is) same) lawful

-- ---- which requests a slave serves

module _ (plan : Plan) (past : List Sighting) (view : GroupView) (link : Link) (known : ℕ) (lanes : List ℕ)
    (place : FlightPlace) (keeps : KeepsGroup plan past view) where
  -- what is said of what a beat finds at its place is said of what it finds after the past
  found_after : (beat : Beat) → IsPlace view link beat place → (Q : Layout → Scene → Type 0)
      → Q view.layout (found_at view link place.wide place.port)
      → Q plan.layout (scene_found plan (state plan past) link beat)
  found_after beat at Q here =
      subst (λ (s : Scene). Q plan.layout s)
      (same_found plan (state_in view) (state plan past) link beat keeps.state)
      (subst (λ (w : ℕ). Q plan.layout (found_at view link w (port_of plan link (flight_in view link w).turn beat)))
      (wide_is plan view link (source_of beat) place.wide keeps.suits at.wide)
      (subst (λ (p : ℕ). Q plan.layout (found_at view link place.wide p)) (at.port plan keeps.suits)
      (subst (λ (l : Layout). Q l (found_at view link place.wide place.port)) keeps.suits.layout here)))

  pub ask_needs : (beat : AskHead) → IsPlace view link (A beat) place
      → MayNeedToAccept view link place.port (ask_by (under_in view link) beat lanes)
      → GroupMayNeedMemory plan past (seen_at link (A beat) known lanes)
  ask_needs beat at needs = found_after (A beat) at (λ l s. SlaveMayNeed l link s (A beat) lanes) needs

  pub reply_needs : (beat : ReplyHead) → IsPlace view link (D beat) place
      → MayNeedToAnswer view link place.wide place.port
      → GroupMayNeedMemory plan past (seen_at link (D beat) known lanes)
  reply_needs beat at needs = found_after (D beat) at (λ l s. SlaveMayNeed l link s (D beat) lanes) needs

-- ---- what a judge answers

-- what is lawful has no reason not to be
no_reason_of : (plan : Plan) (here : Scene) (y : Sighting) (beat : Beat) (reason : Reason)
    → IsAllowedBeat plan here y beat → IsFirstReasonOf plan here y beat reason → ⊥
no_reason_of plan here y (A beat) reason allowed first =
    no_ask_reason plan.layout y.link here beat y.known y.lanes allowed reason first.applies
no_reason_of plan here y (D beat) reason allowed first =
    no_reply_reason plan.layout y.link here beat y.known y.lanes allowed reason first.applies

pub no_reason : (plan : Plan) (past : List Sighting) (x : Sighting) (reason : Reason) → IsLawfulGroup plan (x ∷ past)
    → IsFirstReason plan past x reason → ⊥
no_reason plan past x reason lawful first = no_reason_of plan (scene_in_group plan past x) x x.beat reason lawful.1 first

-- what follows of an error, and of what is right
pub if_err : {T E : Type 0} {P Q : E → Type 0} (r : Result T E) → ((e : E) → P e → Q e) → IfErr r P → IfErr r Q
if_err (Ok v) f p = tt
if_err (Err e) f p = f e p

pub on_ok : {T E : Type 0} {P Q : Type 0} (r : Result T E) → (P → Q) → OnOk r P → OnOk r Q
on_ok (Ok v) f p = f p
on_ok (Err e) f p = tt

-- ---- the fault that is told

wrong_reason : (here : Scene) (beat : ReplyHead) (known : ℕ) (lanes : List ℕ) (fault : Fault)
    → IsWrongReply here beat known lanes fault → reason_of fault ≡ WrongReply
wrong_reason here beat known lanes (faults.WrongReply expected reply) is = refl
wrong_reason here beat known lanes (faults.Form f) is = absurd is
wrong_reason here beat known lanes faults.NoSuchSource is = absurd is
wrong_reason here beat known lanes faults.SourceBusy is = absurd is
wrong_reason here beat known lanes faults.WrongPort is = absurd is
wrong_reason here beat known lanes faults.NoRequest is = absurd is
wrong_reason here beat known lanes faults.EarlyReply is = absurd is
wrong_reason here beat known lanes faults.OutOfOrder is = absurd is
wrong_reason here beat known lanes faults.WrongSize is = absurd is
wrong_reason here beat known lanes faults.WrongOpcode is = absurd is
wrong_reason here beat known lanes faults.UnknownData is = absurd is
wrong_reason here beat known lanes faults.NotSent is = absurd is
wrong_reason here beat known lanes faults.NotGiven is = absurd is

module _ (plan : Plan) (past : List Sighting) (view : GroupView) (link : Link) (known : ℕ) (lanes : List ℕ)
    (keeps : KeepsGroup plan past view) (fault : Fault) where
  pub tells_wrong : (beat : ReplyHead)
      → (IsFirstReplyReason view.layout link (scene_in plan view link (D beat)) beat known lanes WrongReply
      → IsWrongReply (scene_in plan view link (D beat)) beat known lanes fault)
      → IsFirstReason plan past (seen_at link (D beat) known lanes) WrongReply
      → IsFirstGroupFault plan past (seen_at link (D beat) known lanes) fault
  tells_wrong beat says first =
      let x : Sighting = seen_at link (D beat) known lanes in
      let wrong = carried plan past view x keeps (λ l s. IsWrongReply s beat known lanes fault)
      (says (found plan past view x keeps (λ l s. IsFirstReplyReason l link s beat known lanes WrongReply) first)) in
      record {
        reason = subst (λ (r : Reason). IsFirstReason plan past x r)
            (sym (wrong_reason (scene_in_group plan past x) beat known lanes fault wrong)) first;
        replies = λ is. wrong;
      }

  -- a request has no wrong reply
  pub asks_tell : (beat : AskHead) → IsFirstReason plan past (seen_at link (A beat) known lanes) WrongReply
      → IsFirstGroupFault plan past (seen_at link (A beat) known lanes) fault
  asks_tell beat first = absurd first.applies

  pub tells_other : (beat : Beat) (reason : Reason) → (reason ≡ WrongReply → ⊥) → reason_of fault ≡ reason
      → IsFirstReason plan past (seen_at link beat known lanes) reason
      → IsFirstGroupFault plan past (seen_at link beat known lanes) fault
  tells_other beat reason other is first = record {
    reason = subst (λ (r : Reason). IsFirstReason plan past (seen_at link beat known lanes) r) (sym is) first;
    replies = none beat (scene_in_group plan past (seen_at link beat known lanes));
  }
    where
      none : (b : Beat) (here : Scene) → TellsReplies here (seen_at link beat known lanes) b fault
      none (A b) here = tt
      none (D b) here = λ wrong. absurd (other (sym is ∙ wrong))
