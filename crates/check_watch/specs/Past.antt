-- What beats leave, link by link, source by source and port by port. Lists of sightings have the latest first.
use Rattle.std.specs.Prelude.{ℕ, if◌then◌else◌, ◌==◌, false, List, [], ◌∷◌, unwrap_or, slice_get}
use Rattle.check_beats.specs.State.{Under, nothing_under}
use Rattle.check_memory.specs.declared.slave.Slave.TheVariants.{Device}
use Rattle.check_flight.specs.declared.order.Order.TheVariants.{Accept}
use Rattle.check_flight.specs.Crossing.{Crossing}
use Rattle.check_flight.specs.Crossing.Crossing.{Waiting}
use Rattle.check_flight.specs.Flight.{Turn, Flight, idle}
use Rattle.check_flight.specs.Flight.Turn.{Idle, Asking, Asked}
use Rattle.check_flight.specs.PortSlave.{PortSlave, accepting, fresh_slave}
use Rattle.check_flight.specs.Side.{bus_at}
use Rattle.check_watch.specs.declared.beat.Beat.{Beat}
use Rattle.check_watch.specs.declared.beat.Beat.TheVariants.{A, D}
use Rattle.check_watch.specs.declared.beat.Link.{Link}
use Rattle.check_watch.specs.declared.beat.Link.TheVariants.{Master, Port}
use Rattle.check_watch.specs.Plan.{Plan, Sighting, LinkSide, side_of, link_number, buses_of, route_of, source_of, wide_of, is_link, is_of}
use Rattle.check_watch.specs.Plan.LinkSide.{AtMasters}
use Rattle.check_watch.specs.Scene.{Scene, under_after, accepted, once_answered, flight_after, crossing_after}

-- the messages under way at each link, what is in flight of each wide source on each side, how far it has come across,
-- and what each port's slave holds
pub record State : Type 0 where
  pub links : LinkSide → ℕ → Under
  pub flights : LinkSide → ℕ → Flight
  pub crossings : ℕ → Crossing
  pub slaves : ℕ → PortSlave

-- something for ports that are not there
abbrev pub no_slave : PortSlave
no_slave = fresh_slave Device Accept false

-- the slave of a port; that of a port that is not there if the list does not reach to it.
abbrev pub slave_at : List PortSlave → ℕ → PortSlave
slave_at slaves port = unwrap_or (slice_get slaves port) no_slave

-- before any beat
abbrev pub reset_state : Plan → State
reset_state plan = record {
  links = λ side number. nothing_under (bus_at (buses_of plan.layout side) number);
  flights = λ side wide. idle;
  crossings = λ wide. Waiting;
  slaves = λ port. slave_at plan.resets port;
}

-- the port that a master's request in flight goes to, if it has ended
abbrev pub port_in : Plan → ℕ → Turn → ℕ
port_in plan master Idle = 0
port_in plan master (Asking number) = 0
port_in plan master (Asked number sent) = route_of plan master sent.ask.address sent.ask.size

-- the port that the request goes to whose beat this is, or that a reply answers
abbrev pub port_of : Plan → Link → Turn → Beat → ℕ
port_of plan (Port p) turn beat = p
port_of plan (Master m) turn (A beat) = route_of plan m beat.address beat.size
port_of plan (Master m) turn (D beat) = port_in plan m turn

-- what a beat finds there
abbrev pub scene_found : Plan → State → Link → Beat → Scene
scene_found plan state link beat =
    let side = side_of link in
    let wide = wide_of plan link (source_of beat) in
    let port = port_of plan link (state.flights side wide).turn beat in
    record {
      under = state.links side (link_number link);
      wide = wide;
      flight = state.flights side wide;
      sent = (state.flights AtMasters wide).turn;
      crossing = state.crossings wide;
      port = port;
      slave = state.slaves port;
    }

-- what it finds, once the slave has answered the request whose reply begins with it
abbrev pub scene_of : Plan → State → Link → Beat → Scene
scene_of plan state link beat = once_answered plan.layout link (scene_found plan state link beat) beat

-- one beat changes what stands at its own link, of its own source and in its own port, and nothing else
abbrev pub state_after : Plan → State → Sighting → State
state_after plan state x =
    let here = scene_of plan state x.link x.beat in
    record {
      links = λ side number. if is_link x.link side number
          then under_after here.under x.beat x.known x.lanes else state.links side number;
      flights = λ side wide. if is_of plan x side wide
          then flight_after plan.layout x.link here x.beat x.lanes else state.flights side wide;
      crossings = λ wide. if wide_of plan x.link (source_of x.beat) == wide
          then crossing_after x.link here x.beat x.known x.lanes else state.crossings wide;
      slaves = λ port. if here.port == port
          then accepting here.slave here.wide (accepted plan.layout x.link here x.beat x.lanes)
          else state.slaves port;
    }

-- what these sightings leave, from reset on.
abbrev pub state : Plan → List Sighting → State
state plan [] = reset_state plan
state plan (x ∷ past) = state_after plan (state plan past) x

-- what the beat of a sighting finds after this past.
abbrev pub scene_in_group : Plan → List Sighting → Sighting → Scene
scene_in_group plan past x = scene_of plan (state plan past) x.link x.beat
