-- What a reset of the whole system leaves. Nothing is in flight after it. A memory keeps its bytes, or has those that are loaded
-- into it. If it keeps them, nobody knows the bytes that requests may write which the reset cut short: they may have taken
-- effect, or not, or in part. It is this project's own.
use Rattle.std.specs.Prelude.{◌≡◌, ℕ, ◌+◌, ◌⊎◌, true, List, length, Option, Some, None, slice_get, unwrap_or}
use Rattle.tl_types.specs.Request.{Request}
use Rattle.tl_map.specs.Owner.{IsWideSource}
use Rattle.check_beats.specs.State.{ask_so_far, replying_source}
use Rattle.check_memory.specs.declared.slave.Slave.{Slave}
use Rattle.check_contests.specs.Cut.{IsLeftSlave}
use Rattle.check_flight.specs.Flight.{IsEndedAsk}
use Rattle.check_flight.specs.PortSlave.{PortSlave, once_reset}
use Rattle.check_watch.specs.declared.beat.Link.{Link}
use Rattle.check_watch.specs.declared.beat.Link.TheVariants.{Master, Port}
use Rattle.check_watch.specs.Past.{State, slave_at}
use Rattle.check_watch.specs.Plan.{HasLink, Layout, Plan, link_number, route_of, side_of}
use Rattle.check_watch.specs.Scene.{takes_effect}

-- ---- requests that are cut short

-- the port that a request at a link goes to
abbrev pub port_asked : Plan → Link → Request → ℕ
port_asked plan (Master m) ask = route_of plan m ask.address ask.size
port_asked plan (Port p) ask = p

-- the slave of a port takes a request as it is seen at a link of the system
pub record IsTaken (plan : Plan) (link : Link) (port : ℕ) (ask : Request) : Type 0 where
  pub known : HasLink plan.layout link
  pub goes : port_asked plan link ask ≡ port
  pub effect : takes_effect plan.layout link port ≡ true

-- the request has begun at a link and not ended
abbrev pub IsUnderWay : State → Link → Request → Type 0
IsUnderWay state link ask = ask_so_far (state.links (side_of link) (link_number link)).asking ≡ Some ask

-- the wide source of a source at a link: a master's, or itself at a port's link
abbrev pub IsWideThere : Layout → Link → ℕ → ℕ → Type 0
IsWideThere layout (Master m) source wide = IsWideSource layout.owners m source wide
IsWideThere layout (Port p) source wide = wide ≡ source

-- the reply to what is in flight of a wide source has begun at a link and not ended
abbrev pub IsBeingAnswered : Layout → State → Link → ℕ → Type 0
IsBeingAnswered layout state link wide =
    (source : ℕ) × (replying_source (state.links (side_of link) (link_number link)).replying ≡ Some source)
    × IsWideThere layout link source wide

-- the request of a wide source has ended at a link, and its reply has not begun there
abbrev pub IsOpen : Layout → State → Link → ℕ → Request → Type 0
IsOpen layout state link wide ask =
    IsEndedAsk (link_number link) ask (state.flights (side_of link) wide).turn × (IsBeingAnswered layout state link wide → ⊥)

-- at the slave of a port: a request that has begun at a link and not ended
abbrev pub IsCutUnderWay : Plan → State → Link → ℕ → Request → Type 0
IsCutUnderWay plan state link port ask = IsTaken plan link port ask × IsUnderWay state link ask

-- one of a wide source that has ended there, and whose reply has not begun
abbrev pub IsCutOpen : Plan → State → Link → ℕ → ℕ → Request → Type 0
IsCutOpen plan state link wide port ask = IsTaken plan link port ask × IsOpen plan.layout state link wide ask

-- a request at a link is cut short at the slave of a port
abbrev pub IsCutAt : Plan → State → Link → ℕ → Request → Type 0
IsCutAt plan state link port ask =
    IsCutUnderWay plan state link port ask ⊎ ((wide : ℕ) × IsCutOpen plan state link wide port ask)

-- a reset cuts a request short at the slave of a port, whichever its link
abbrev pub IsCut : Plan → State → ℕ → Request → Type 0
IsCut plan state port ask = (link : Link) × IsCutAt plan state link port ask

-- ---- slaves

-- requests are cut short at a slave, and nothing else changes
pub record IsLeftPort (Cut : Request → Type 0) (slave left : PortSlave) : Type 0 where
  pub same : left ≡ record slave { kept = left.kept }
  pub kept : IsLeftSlave Cut slave.kept left.kept

-- the same of the slaves of all ports
pub record AreLeft (Cut : ℕ → Request → Type 0) (slaves left : List PortSlave) : Type 0 where
  pub counted : length left ≡ length slaves
  pub each : (port : ℕ) → IsLeftPort (Cut port) (slave_at slaves port) (slave_at left port)

-- what is loaded into the slave of a port, if something is
abbrev pub loaded_at : List (Option Slave) → ℕ → Option Slave
loaded_at loaded port = unwrap_or (slice_get loaded port) None

-- the slave of each port after a reset with which this is loaded, the error port's last: what is loaded, or what is left
-- where requests were cut short. No request is kept any more, and the places in the port's list go on
pub record AreReset (plan : Plan) (state : State) (loaded : List (Option Slave)) (after : List PortSlave) : Type 0 where
  pub counted : length after ≡ length plan.layout.ports + 1
  pub each : (port : ℕ) → (left : PortSlave) × IsLeftPort (IsCut plan state port) (state.slaves port) left
      × (slave_at after port ≡ once_reset left (loaded_at loaded port))

-- the system as it goes on after the reset: its slaves are those
abbrev pub reset_plan : Plan → List PortSlave → Plan
reset_plan plan after = record plan { resets = after }
