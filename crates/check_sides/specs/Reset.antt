-- What a reset of the whole system leaves where ports' links are judged each by itself. It is this project's own.
use Rattle.std.specs.Prelude.{◌≡◌, ℕ, ◌<◌, ◌⊎◌, false, List, length, Option, Some, IsTrue, slice_get}
use Rattle.tl_types.specs.Request.{Request}
use Rattle.check_beats.specs.State.{ask_so_far, replying_source}
use Rattle.check_memory.specs.declared.slave.Slave.{Slave}
use Rattle.check_flight.specs.PortSlave.{PortSlave, once_reset}
use Rattle.check_watch.specs.declared.beat.Link.TheVariants.{Port}
use Rattle.check_watch.specs.Past.{State, slave_at}
use Rattle.check_watch.specs.Past as group
use Rattle.check_watch.specs.Plan.{Sighting}
use Rattle.check_watch.specs.Reset.{AreReset, IsCutAt, IsLeftPort, loaded_at}
use Rattle.check_sides.specs.Flights.{IsOpenOf}
use Rattle.check_sides.specs.Groups.{are_apart, is_alone, port_past, port_plan, shared_past}
use Rattle.check_sides.specs.Plan.{Plan}
use Rattle.check_sides.specs.View.{PortView, fresh_link}

-- ---- a port's link that is judged by itself

-- a request there is cut short, by what is kept: it has begun and not ended, or it has ended, and its reply has not begun
abbrev pub IsCutIn : PortView → ℕ → Request → Type 0
IsCutIn view port ask =
    (ask_so_far view.under.asking ≡ Some ask)
    ⊎ IsOpenOf view.flights port (replying_source view.under.replying) ask

-- the link after a reset with which this is loaded: nothing is under way or in flight there
abbrev pub IsResetOf : PortView → ℕ → Option Slave → PortView → Type 0
IsResetOf view port load later =
    (left : PortSlave) × IsLeftPort (IsCutIn view port) view.slave left
    × (later ≡ fresh_link view.under.bus (once_reset left load))

-- the same of each of several links
abbrev pub AreResetLinks : List PortView → List (Option Slave) → List PortView → Type 0
AreResetLinks links loaded later =
    (port : ℕ) (link now : PortView) → slice_get links port ≡ Some link → slice_get later port ≡ Some now
    → IsResetOf link port (loaded_at loaded port) now

-- the slave of such a link, by what crossed there: what is loaded, or what is left where requests were cut
-- short there
abbrev pub IsResetLink : Plan → ℕ → State → Option Slave → PortSlave → Type 0
IsResetLink plan port state load later =
    (left : PortSlave) × IsLeftPort (IsCutAt plan state (Port port) port) (state.slaves port) left × (later ≡ once_reset left load)

-- ---- all links

-- the system as it goes on with these slaves, and with these of ports' links by themselves
abbrev pub plan_after_reset : Plan → List PortSlave → List PortSlave → Plan
plan_after_reset plan resets own = record plan { resets = resets; own = own }

-- the slaves of ports' links that are judged each by itself, after a reset with which this is loaded: one of each port, and
-- of another port what stood there
pub record AreOwnReset (plan : Plan) (past : List Sighting) (loaded : List (Option Slave)) (own : List PortSlave)
    : Type 0 where
  pub counted : length own ≡ length plan.layout.ports
  pub each : (port : ℕ) → port < length plan.layout.ports → IsTrue (is_alone plan.layout (Port port))
      → IsResetLink (port_plan plan) port (group.state (port_plan plan) (port_past port past)) (loaded_at loaded port)
      (slave_at own port)
  pub rest : (port : ℕ) → port < length plan.layout.ports → is_alone plan.layout (Port port) ≡ false
      → slave_at own port ≡ slave_at plan.own port

-- these slaves stand there after a reset: those of the links that are judged together; and those of ports' links by
-- themselves if some are judged so, else what stood there
pub record IsReset (plan : Plan) (past : List Sighting) (loaded own_loaded : List (Option Slave))
    (resets own : List PortSlave) : Type 0 where
  pub shared : AreReset plan (group.state plan (shared_past plan.layout past)) loaded resets
  pub apart : IsTrue (are_apart plan.layout) → AreOwnReset plan past own_loaded own
  pub together : are_apart plan.layout ≡ false → own ≡ plan.own
