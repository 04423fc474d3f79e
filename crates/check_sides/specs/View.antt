-- What a judge keeps of the beats so far. It is this project's own.
use Rattle.std.specs.Prelude.{◌≡◌, ℕ, ◌<◌, if◌then◌else◌, ◌==◌, List, [], map, Option, Some, None, IsTrue, IsSomeAnd, length, slice_get}
use Rattle.std.specs.List.{zip}
use Rattle.tl_map.specs.declared.range.Range.{Range}
use Rattle.tl_map.specs.Owner.{IsOwned}
use Rattle.check_cells.specs.Pattern.{Pattern}
use Rattle.check_cells.specs.Sent.{Sent}
use Rattle.check_beats.specs.Bus.{bus_bytes}
use Rattle.check_beats.specs.State.{Under, nothing_under}
use Rattle.check_beats.specs.declared.beat.ReplyHead.{ReplyHead}
use Rattle.check_beats.specs.declared.bus.Bus.{Bus}
use Rattle.check_beats.specs.declared.rules.LinkRules.{LinkRules}
use Rattle.check_flight.specs.declared.answer.Answer.{Answer}
use Rattle.check_flight.specs.Crossing.{Crossing}
use Rattle.check_flight.specs.Flight.{Flight, Turn, asked, due_by}
use Rattle.check_flight.specs.PortSlave.{PortSlave, accepting, due_answering, may_need_to_answer}
use Rattle.check_flight.specs.Side.{bus_at}
use Rattle.check_watch.specs.declared.beat.Beat.{Beat}
use Rattle.check_watch.specs.declared.beat.Link.TheVariants.{Port}
use Rattle.check_watch.specs.declared.links.Links.TheVariants.{Ports}
use Rattle.check_watch.specs.Lawful as group_lawful
use Rattle.check_watch.specs.Past as group
use Rattle.check_watch.specs.Plan.{IsPlan, Layout, Plan, Sighting, source_of}
use Rattle.check_watch.specs.Plan.LinkSide.{AtPorts}
use Rattle.check_watch.specs.Scene.{Scene, accepted, ask_if, begins_reply, captured, flight_after, once_answered, under_after}
use Rattle.check_watch.specs.View as group_view
use Rattle.check_watch.specs.View.{GroupView}
use Rattle.check_sides.specs.Flights.{flight_of, flight_kept}
use Rattle.check_sides.specs.Groups.{are_apart, is_alone, shared_past, port_plan, port_past}
use Rattle.check_sides.specs.Lawful.{IsAskOf, IsLawful, IsNew}

-- ---- a port's link that is judged by itself

-- the messages under way at it, what is kept there of each source, and what the port's slave holds
pub record PortView : Type 0 where
  pub under : Under
  pub flights : List (ℕ × Flight)
  pub slave : PortSlave

-- a layout is that of such a link, by these rules of the links, where the ports have these ranges, and whoever sends a
-- request has a path to each
pub record IsOwnPort (layout : Layout) (links : LinkRules) (map : List (List Range)) : Type 0 where
  pub watched : layout.links ≡ Ports
  pub rules : layout.rules ≡ links
  pub anybody : (source : ℕ) → source < 65536 → IsOwned layout.owners source
  pub ranges : layout.ports ≡ map
  pub paths : layout.paths ≡ []

-- what stands of a source at the masters' side. No rule of a port's own link asks for it
pub record Beyond : Type 0 where
  pub sent : Turn
  pub crossing : Crossing

-- what is in flight there of a source
abbrev pub flight_in : PortView → ℕ → Flight
flight_in view source = flight_of view.flights source

-- what a beat finds there
abbrev pub port_scene : Layout → ℕ → Beyond → PortView → Beat → Scene
port_scene layout port beyond view beat =
    once_answered layout (Port port) (record {
      under = view.under;
      wide = source_of beat;
      flight = flight_in view (source_of beat);
      sent = beyond.sent;
      crossing = beyond.crossing;
      port = port;
      slave = view.slave;
    }) beat

-- the request in flight of a source that the slave answers, if its reply begins with the next beat of channel D
abbrev pub answered_in : PortView → ℕ → Option Sent
answered_in view source = ask_if (begins_reply view.under.replying) (asked (flight_in view source).turn)

-- the slave may need memory to answer it
abbrev pub MayNeedToAnswer : PortView → ℕ → Type 0
MayNeedToAnswer view source =
    IsSomeAnd (answered_in view source) (λ sent. IsTrue (may_need_to_answer view.slave sent))

-- the reply that the slave expects to what is in flight of a source
abbrev pub due_in : PortView → ℕ → ℕ → Option Answer
due_in view port source =
    due_by (flight_in view source).due (due_answering port view.slave source (answered_in view source))

-- the reply that a beat ends, as it was captured
abbrev pub captured_in : PortView → ReplyHead → ℕ → List ℕ → Pattern
captured_in view beat known lanes = captured view.under (flight_in view beat.source).turn beat known lanes

-- one beat changes this, and something is kept of each source that has made a request
pub record IsAfter (layout : Layout) (port : ℕ) (beyond : Beyond) (old new : PortView) (beat : Beat) (known : ℕ)
    (lanes : List ℕ) : Type 0 where
  pub under : new.under ≡ under_after old.under beat known lanes
  pub flights : (source : ℕ) → flight_in new source ≡ (if source_of beat == source
      then flight_after layout (Port port) (port_scene layout port beyond old beat) beat lanes
      else flight_in old source)
  pub slave : let here = port_scene layout port beyond old beat in
      new.slave ≡ accepting here.slave here.wide (accepted layout (Port port) here beat lanes)
  pub unkept : (source : ℕ) → flight_kept new.flights source ≡ None
      → (flight_kept old.flights source ≡ None) × (IsAskOf beat source → ⊥)

-- the beats of a port's link are lawful, and this is kept of them: something of each source that has made a request
pub record KeepsPort (plan : Plan) (port : ℕ) (past : List Sighting) (view : PortView) : Type 0 where
  pub lawful : group_lawful.IsLawfulGroup plan past
  pub under : (group.state plan past).links AtPorts port ≡ view.under
  pub flights : (source : ℕ) → (group.state plan past).flights AtPorts source ≡ flight_in view source
  pub slave : (group.state plan past).slaves port ≡ view.slave
  pub unkept : (source : ℕ) → flight_kept view.flights source ≡ None → IsNew past source

-- ---- all links

-- what is kept of the links that are judged together, and of each port's that is judged by itself
pub record View : Type 0 where
  pub layout : Layout
  pub shared : GroupView
  pub ports : List PortView

-- each port's link has its bus
abbrev pub HaveBuses : List PortView → List Bus → Type 0
HaveBuses links buses =
    (port : ℕ) (link : PortView) → slice_get links port ≡ Some link → link.under.bus ≡ bus_at buses port

-- each port's link has its place and its bus, if some are judged by themselves
pub record IsSized (view : View) : Type 0 where
  pub ports : IsTrue (are_apart view.layout) → length view.ports ≡ length view.layout.ports
  pub buses : HaveBuses view.ports view.layout.port_buses

-- a port's link with a bus of so many bytes and with this slave, before any beat
abbrev pub fresh_link : ℕ → PortSlave → PortView
fresh_link bus slave = record { under = nothing_under bus; flights = []; slave = slave }

-- the links of these buses with these slaves: the error port has a slave, and no link
abbrev pub fresh_links : List Bus → List PortSlave → List PortView
fresh_links buses slaves = map (λ (p : Bus × PortSlave). fresh_link (bus_bytes p.0) p.1) (zip buses slaves)

-- the judge is one for this plan
pub record Suits (plan : Plan) (view : View) : Type 0 where
  pub lawful : IsPlan plan
  pub layout : view.layout ≡ plan.layout

-- the past is lawful, and this is kept of it
pub record Keeps (plan : Plan) (past : List Sighting) (view : View) : Type 0 where
  pub suits : Suits plan view
  pub lawful : IsLawful plan past
  pub shared : group_view.KeepsGroup plan (shared_past plan.layout past) view.shared
  pub ports : (port : ℕ) → IsTrue (is_alone plan.layout (Port port)) → (link : PortView)
      → slice_get view.ports port ≡ Some link
      → KeepsPort (port_plan plan) port (port_past port past) link
