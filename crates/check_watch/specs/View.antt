-- What a judge keeps of the beats so far. It is this project's own.
use Rattle.std.specs.Prelude.{◌≡◌, ℕ, ◌+◌, ◌<◌, Bool, true, false, ◌&&◌, if◌then◌else◌, List, length, Option, Some, None, slice_get, slice_set, unwrap_or, IsTrue, IsSomeAnd}
use Rattle.tl_map.specs.Owner.{IsOwned}
use Rattle.check_cells.specs.Pattern.{Pattern}
use Rattle.check_cells.specs.Sent.{Sent}
use Rattle.check_beats.specs.Form.{FitsAsk, FitsReply}
use Rattle.check_beats.specs.State.{Under, first_ask, first_reply, ends_ask, ends_reply}
use Rattle.check_beats.specs.declared.beat.AskHead.{AskHead}
use Rattle.check_beats.specs.declared.beat.ReplyHead.{ReplyHead}
use Rattle.check_beats.specs.declared.bus.Bus.{Bus}
use Rattle.check_flight.specs.declared.answer.Answer.{Answer}
use Rattle.check_flight.specs.declared.place.FlightPlace.{FlightPlace}
use Rattle.check_flight.specs.Crossing.{Crossing}
use Rattle.check_flight.specs.Crossing.Crossing.{Waiting, Crossed, Given}
use Rattle.check_flight.specs.Flight.{Flight, idle, due_by}
use Rattle.check_flight.specs.PortSlave.{PortSlave, accepting, answering, due_accepting, due_answering, may_need_to_accept, may_need_to_answer}
use Rattle.check_flight.specs.Side.{SideView, bus_at, under_at, flight_at, side_with, side_under, side_due, ask_crossed, reply_crossed}
use Rattle.check_watch.specs.declared.beat.Beat.{Beat}
use Rattle.check_watch.specs.declared.beat.Beat.TheVariants.{A, D}
use Rattle.check_watch.specs.declared.beat.Link.{Link}
use Rattle.check_watch.specs.declared.beat.Link.TheVariants.{Master, Port}
use Rattle.check_watch.specs.Plan.{Layout, Plan, IsPlan, Sighting, IsWideAt, LinkSide, side_of, link_number, source_of}
use Rattle.check_watch.specs.Plan.LinkSide.{AtMasters, AtPorts}
use Rattle.check_watch.specs.Scene.{Scene, ask_if, takes_effect, begins_reply, answered, ask_by, turn_by, captured}
use Rattle.check_watch.specs.Past.{State, slave_at, port_of, scene_of, state}
use Rattle.check_watch.specs.Lawful.{IsLawfulGroup}

-- what is kept: the layout, both sides with what is under way and in flight there, how far the request of each wide
-- source has come across, and the slave of each port, the error port's last.
pub record GroupView : Type 0 where
  pub layout : Layout
  pub masters : SideView
  pub ports : SideView
  pub crossings : List Crossing
  pub slaves : List PortSlave

-- how many wide sources are kept
abbrev pub wides_in : GroupView → ℕ
wides_in view = length view.crossings

-- each link has its bus
abbrev pub HaveBuses : List Under → List Bus → Type 0
HaveBuses links buses = (number : ℕ) → (under_at links number).bus ≡ bus_at buses number

-- a link for each master and each port, each with its bus, a slave for each port and the error port, and room for each
-- wide source that somebody has
pub record IsSized (view : GroupView) : Type 0 where
  pub masters : length view.masters.links ≡ length view.layout.owners
  pub ports : length view.ports.links ≡ length view.layout.ports
  pub master_buses : HaveBuses view.masters.links view.layout.master_buses
  pub port_buses : HaveBuses view.ports.links view.layout.port_buses
  pub slaves : length view.slaves ≡ length view.layout.ports + 1
  pub at_masters : length view.masters.flights ≡ wides_in view
  pub at_ports : length view.ports.flights ≡ wides_in view
  pub owned : (wide : ℕ) → IsOwned view.layout.owners wide → wide < wides_in view

-- ---- what stands at a place, and something for places that are not there

-- how far the request of a wide source has come across; Waiting if the list does not reach to the source.
abbrev pub crossing_at : List Crossing → ℕ → Crossing
crossing_at crossings wide = unwrap_or (slice_get crossings wide) Waiting

-- what is kept of a side.
abbrev pub side_in : GroupView → LinkSide → SideView
side_in view AtMasters = view.masters
side_in view AtPorts = view.ports

-- the side of a link
abbrev pub own_side : GroupView → Link → SideView
own_side view link = side_in view (side_of link)

-- the messages under way at a link.
abbrev pub under_in : GroupView → Link → Under
under_in view link = under_at (own_side view link).links (link_number link)

-- what is in flight of a wide source on the side of a link.
abbrev pub flight_in : GroupView → Link → ℕ → Flight
flight_in view link wide = flight_at (own_side view link).flights wide

-- the state that this is
abbrev pub state_in : GroupView → State
state_in view = record {
  links = λ side number. under_at (side_in view side).links number;
  flights = λ side wide. flight_at (side_in view side).flights wide;
  crossings = λ wide. crossing_at view.crossings wide;
  slaves = λ port. slave_at view.slaves port;
}

-- what a beat finds at its link
abbrev pub scene_in : Plan → GroupView → Link → Beat → Scene
scene_in plan view link beat = scene_of plan (state_in view) link beat

-- the slave of a port answers as the next beat of channel D crosses at a link
abbrev pub is_answering_in : GroupView → Link → ℕ → Bool
is_answering_in view link port =
    takes_effect view.layout link port && begins_reply (under_in view link).replying

-- the request in flight of a wide source that it answers then
abbrev pub answered_in : GroupView → Link → ℕ → ℕ → Option Sent
answered_in view link wide port =
    answered view.layout link port (under_in view link).replying (flight_in view link wide).turn

-- what its reply has to fit, if that is known then, and not before
abbrev pub late_answer : GroupView → Link → ℕ → ℕ → Option Answer
late_answer view link wide port =
    due_answering port (slave_at view.slaves port) wide (answered_in view link wide port)

-- the reply that the port's slave expects
abbrev pub due_in : GroupView → Link → ℕ → ℕ → Option Answer
due_in view link wide port = due_by (flight_in view link wide).due (late_answer view link wide port)

-- the port's slave may need memory to answer it
abbrev pub MayNeedToAnswer : GroupView → Link → ℕ → ℕ → Type 0
MayNeedToAnswer view link wide port =
    IsSomeAnd (answered_in view link wide port) (λ sent. IsTrue (may_need_to_answer (slave_at view.slaves port) sent))

-- the reply that a beat ends to what is in flight of a wide source, as it was captured
abbrev pub captured_in : GroupView → Link → ℕ → ReplyHead → ℕ → List ℕ → Pattern
captured_in view link wide beat known lanes =
    captured (under_in view link) (flight_in view link wide).turn beat known lanes

-- two states say the same of each place
pub record AreSame (a b : State) : Type 0 where
  pub links : (side : LinkSide) (number : ℕ) → a.links side number ≡ b.links side number
  pub flights : (side : LinkSide) (wide : ℕ) → a.flights side wide ≡ b.flights side wide
  pub crossings : (wide : ℕ) → a.crossings wide ≡ b.crossings wide
  pub slaves : (port : ℕ) → a.slaves port ≡ b.slaves port

-- the judge is one for this plan
pub record SuitsGroup (plan : Plan) (view : GroupView) : Type 0 where
  pub lawful : IsPlan plan
  pub layout : view.layout ≡ plan.layout

-- the past is lawful, and this is kept of it
pub record KeepsGroup (plan : Plan) (past : List Sighting) (view : GroupView) : Type 0 where
  pub suits : SuitsGroup plan view
  pub lawful : IsLawfulGroup plan past
  pub state : AreSame (state_in view) (state plan past)

-- ---- the place of a beat

-- the beat is one of the message under way
abbrev pub FitsBeat : Under → Beat → Type 0
FitsBeat under (A beat) = FitsAsk under.bus (first_ask under.asking) beat
FitsBeat under (D beat) = FitsReply (first_reply under.replying) beat

-- the number of a beat's link, its wide source, and the port of its request; and the beat is one of its message
pub record IsPlace (view : GroupView) (link : Link) (beat : Beat) (place : FlightPlace) : Type 0 where
  pub at : place.link ≡ link_number link
  pub wide : IsWideAt view.layout link (source_of beat) place.wide
  pub in_limit : place.wide < wides_in view
  pub port : (plan : Plan) → SuitsGroup plan view → place.port ≡ port_of plan link (flight_in view link place.wide).turn beat
  pub in_ports : place.port < length view.slaves
  pub fits : FitsBeat (under_in view link) beat

-- ---- steps

-- this is the side of a link from then on
abbrev pub with_side : GroupView → Link → SideView → GroupView
with_side view (Master m) side = record view { masters = side }
with_side view (Port p) side = record view { ports = side }

-- the slave of a port accepts this request of a wide source, if there is one
abbrev pub slaves_accepting : List PortSlave → ℕ → ℕ → Option Sent → List PortSlave
slaves_accepting slaves port wide None = slaves
slaves_accepting slaves port wide (Some sent) =
    slice_set slaves port (accepting (slave_at slaves port) wide (Some sent))

-- it answers this one, if there is one
abbrev pub slaves_answering : List PortSlave → ℕ → ℕ → Option Sent → List PortSlave
slaves_answering slaves port wide None = slaves
slaves_answering slaves port wide (Some sent) =
    slice_set slaves port (answering (slave_at slaves port) wide (Some sent))

-- a port takes a request, if it ends
abbrev pub crossings_taken : List Crossing → ℕ → Bool → List Crossing
crossings_taken crossings wide false = crossings
crossings_taken crossings wide true = slice_set crossings wide Crossed

-- a beat of a request crosses at a master's link, or at a port's
abbrev pub crossings_asked : List Crossing → Link → ℕ → Bool → List Crossing
crossings_asked crossings (Master m) wide ends = slice_set crossings wide Waiting
crossings_asked crossings (Port p) wide ends = crossings_taken crossings wide ends

-- the port gives this captured reply, if one is due
abbrev pub crossings_given : List Crossing → ℕ → Option Answer → Pattern → List Crossing
crossings_given crossings wide None reply = crossings
crossings_given crossings wide (Some answer) reply = slice_set crossings wide (Given (record answer { reply = reply }))

-- a reply ends at a master's link, or at a port's
abbrev pub crossings_replied : List Crossing → Link → ℕ → Option Answer → Pattern → List Crossing
crossings_replied crossings (Master m) wide due reply = crossings
crossings_replied crossings (Port p) wide due reply = crossings_given crossings wide due reply

-- of a request that ends at a link, the one that its port's slave accepts: it, or none
abbrev pub accepted_in : GroupView → Link → ℕ → Option Sent → Option Sent
accepted_in view link port sent = ask_if (takes_effect view.layout link port) sent

-- the slave may need memory to accept it
abbrev pub MayNeedToAccept : GroupView → Link → ℕ → Option Sent → Type 0
MayNeedToAccept view link port sent =
    IsSomeAnd (accepted_in view link port sent) (λ sent. IsTrue (may_need_to_accept (slave_at view.slaves port) sent))

-- what is in flight of a source after a beat of its request at a link: the request, if it ends with the beat, and what
-- its reply has to fit, if that is known then.
abbrev pub asked_flight : GroupView → Link → ℕ → Option Sent → Flight
asked_flight view link port sent = record {
  turn = turn_by (link_number link) sent;
  due = due_accepting port (slave_at view.slaves port) (accepted_in view link port sent);
}

-- this is under way at a link, and this is in flight there, from then on, and the port's slave accepts this request
abbrev pub with_message : GroupView → Link → ℕ → ℕ → Under → Flight → Option Sent → GroupView
with_message view link wide port under flight sent =
    record (with_side view link (side_with (own_side view link) (link_number link) under wide flight)) {
      slaves = slaves_accepting view.slaves port wide sent;
    }

-- a beat of a request crosses
abbrev pub with_ask : GroupView → Link → ℕ → ℕ → AskHead → List ℕ → GroupView
with_ask view link wide port beat lanes =
    let under = under_in view link in
    let sent = ask_by under beat lanes in
    record (with_message view link wide port (ask_crossed under beat lanes)
    (asked_flight view link port sent) (accepted_in view link port sent)) {
      crossings = crossings_asked view.crossings link wide (ends_ask under.bus under.asking beat);
    }

-- the port's slave answers the request in flight, if its reply begins
abbrev pub with_late : GroupView → Link → ℕ → ℕ → GroupView
with_late view link wide port =
    record (with_side view link (side_due (own_side view link) wide (late_answer view link wide port))) {
      slaves = slaves_answering view.slaves port wide (answered_in view link wide port);
    }

-- a beat of a reply crosses that does not end it
abbrev pub with_part : GroupView → Link → ReplyHead → ℕ → List ℕ → GroupView
with_part view link beat known lanes =
    with_side view link
    (side_under (own_side view link) (link_number link) (reply_crossed (under_in view link) beat known lanes))

-- a beat of a reply crosses that ends it
abbrev pub with_end : GroupView → Link → ℕ → ReplyHead → ℕ → List ℕ → GroupView
with_end view link wide beat known lanes =
    record (with_side view link (side_with (own_side view link) (link_number link)
    (reply_crossed (under_in view link) beat known lanes) wide idle)) {
      crossings = crossings_replied view.crossings link wide (flight_in view link wide).due
          (captured_in view link wide beat known lanes);
    }

-- a beat of a reply crosses
abbrev pub with_reply : GroupView → Link → ℕ → ℕ → ReplyHead → ℕ → List ℕ → GroupView
with_reply view link wide port beat known lanes =
    let served = with_late view link wide port in
    if ends_reply (under_in view link).bus (under_in view link).replying beat
    then with_end served link wide beat known lanes else with_part served link beat known lanes
