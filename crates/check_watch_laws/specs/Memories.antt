-- What lawful beats say of slaves whose order is known: each port's replies fit what its slave may reply, which takes one
-- request at a time. (`Moments.antt` has the slaves whose order nobody knows.)
-- What a memory does is the chapter "TL-UL and TL-UH operations" of the TileLink specification (`Slave.antt` of
-- `check_memory`); unknown bytes, devices, in which order requests take effect, and where this is seen is this project's
-- own.
use Rattle.std.specs.Prelude.{◌≡◌, ℕ, ◌≤◌, Bool, true, false, ◌&&◌, ◌==◌, if◌then◌else◌, List, [], ◌∷◌, ◌++◌, length, map, filter, take, Some, slice_get}
use Rattle.tl_types.specs.Request.{Request}
use Rattle.check_cells.specs.Pattern.{Pattern, FitsCaptured}
use Rattle.check_cells.specs.Sent.{Sent}
use Rattle.check_contests.specs.Sent.{expected_of_sent}
use Rattle.check_flight.specs.declared.order.Order.{Order}
use Rattle.check_flight.specs.declared.order.Order.TheVariants.{Accept, Reply, Any}
use Rattle.check_flight.specs.PortSlave.{PortSlave, served_by}
use Rattle.check_watch.specs.declared.beat.Beat.{Beat}
use Rattle.check_watch.specs.declared.beat.Beat.TheVariants.{A, D}
use Rattle.check_watch.specs.declared.beat.Link.{Link}
use Rattle.check_watch.specs.declared.beat.Link.TheVariants.{Master, Port}
use Rattle.check_watch.specs.declared.links.Links.{Links}
use Rattle.check_watch.specs.declared.links.Links.TheVariants.{Both, Masters, Ports, Each}
use Rattle.check_watch.specs.Past.{slave_at}
use Rattle.check_watch.specs.Plan.{Plan, Layout, Sighting, LinkSide, may_cross, side_of, route_of, source_of, wide_of, same_side}
use Rattle.check_watch.specs.Plan.LinkSide.{AtMasters, AtPorts}
use Rattle.check_watch.specs.Scene.{begins_reply}
use Rattle.check_watch_laws.specs.Crossed.{AskSeen, ReplySeen, replying_at, ask_ended, exchanges, next_answered}

-- ---- where a port's slave is seen

-- at the port's own link if ports' links are watched, else at all masters' links; the error port has no link of its own, and
-- no port that the system takes out has one among the links that are judged together
abbrev pub side_by : Links → Bool → LinkSide
side_by Both true = AtPorts
side_by Both false = AtMasters
side_by Masters crosses = AtMasters
side_by Ports crosses = AtPorts
side_by Each crosses = AtMasters

-- the side at whose links the slave of a port is seen.
abbrev pub side_for : Layout → ℕ → LinkSide
side_for layout port = side_by layout.links (may_cross layout port)

-- the port that a request at a link goes to: the link's own, or that of the master's requests
abbrev pub port_for : Plan → Link → Request → ℕ
port_for plan (Port p) ask = p
port_for plan (Master m) ask = route_of plan m ask.address ask.size

-- the request is one that this port's slave has to do, as it is seen at this link
abbrev pub is_for : Plan → ℕ → AskSeen → Bool
is_for plan port seen =
    same_side (side_of seen.link) (side_for plan.layout port) && (port_for plan seen.link seen.sent.ask == port)

-- ---- in which order the slave does its requests

-- the slave of a port at reset
abbrev pub reset_of : Plan → ℕ → PortSlave
reset_of plan port = slave_at plan.resets port

-- when requests take effect at a port: its slave says so at reset.
abbrev pub order_at : Plan → ℕ → Order
order_at plan port = (reset_of plan port).order

-- the request that a reply answers which begins with this beat
abbrev pub ask_answered : Plan → List Sighting → Sighting → Beat → List AskSeen
ask_answered plan past x (A beat) = []
ask_answered plan past x (D beat) =
    if begins_reply (replying_at plan.layout x.link past)
    then next_answered plan (side_of x.link) (wide_of plan x.link beat.source) past else []

-- the request that is done as this beat crosses: the one that it ends, or the one whose reply it begins; if nobody knows
-- when requests are done, none is told
abbrev pub ask_done : Plan → Order → List Sighting → Sighting → List AskSeen
ask_done plan Accept past x = ask_ended plan.layout past x x.beat
ask_done plan Reply past x = ask_answered plan past x x.beat
ask_done plan Any past x = []

-- a request, as if it had this source
abbrev pub with_source : ℕ → Sent → Sent
with_source wide sent = record sent { ask = record sent.ask { source = wide } }

-- the request with its wide source, by which the port knows it
abbrev pub widened : ℕ → AskSeen → Sent
widened wide seen = with_source wide seen.sent

-- the requests that a port's slave has done, in order; when it does them is the slave's own order
abbrev pub asks_done : Plan → ℕ → List Sighting → List Sent
asks_done plan port [] = []
asks_done plan port (x ∷ past) =
    asks_done plan port past
    ++ map (widened (wide_of plan x.link (source_of x.beat)))
    (filter (is_for plan port) (ask_done plan (order_at plan port) past x))

-- ---- what the slave does

-- the slave after each of these requests in turn
abbrev pub replay_slave : PortSlave → List Sent → PortSlave
replay_slave slave [] = slave
replay_slave slave (sent ∷ later) = replay_slave (served_by slave sent) later

-- the requests of a history
abbrev pub asks_in : List (Sent × Pattern) → List Sent
asks_in history = map (λ (entry : Sent × Pattern). entry.0) history

-- each reply of the history is what is expected of the slave there, after the requests before it
abbrev pub IsSlaveHistory : PortSlave → List (Sent × Pattern) → Type 0
IsSlaveHistory reset history =
    (k : ℕ) (sent : Sent) (expected : Pattern) → slice_get history k ≡ Some (sent, expected)
    → expected ≡ expected_of_sent (replay_slave reset (asks_in (take k history))).kept sent

-- ---- the replies

-- the captured request is the one of the history, and the captured reply fits what is expected there: but for the source,
-- which is the master's own if they were seen at a master's link
pub record IsEntry (wide : ℕ) (seen : AskSeen × ReplySeen) (entry : Sent × Pattern) : Type 0 where
  pub ask : entry.0 ≡ widened wide seen.0
  pub fits : FitsCaptured (record entry.1 { source = seen.0.sent.ask.source }) (seen.1.reply seen.0.sent.ask.address)

-- entries of a history are those of captured requests and replies, one by one; one request more may be done, and not
-- answered yet
abbrev pub AreEntries : ℕ → List (AskSeen × ReplySeen) → List (Sent × Pattern) → Type 0
AreEntries wide [] entries = length entries ≤ 1
AreEntries wide (seen ∷ more) [] = ⊥
AreEntries wide (seen ∷ more) (entry ∷ entries) = IsEntry wide seen entry × AreEntries wide more entries

-- the requests of a wide source to a port, with their replies
abbrev pub exchanges_at : Plan → ℕ → ℕ → List Sighting → List (AskSeen × ReplySeen)
exchanges_at plan port wide past =
    filter (λ (seen : AskSeen × ReplySeen). is_for plan port seen.0)
    (exchanges plan (side_for plan.layout port) wide past)

-- the entries of a history that are of this wide source.
abbrev pub entries_of : ℕ → List (Sent × Pattern) → List (Sent × Pattern)
entries_of wide history = filter (λ (entry : Sent × Pattern). entry.0.ask.source == wide) history

-- this is what a port's slave has done: the requests to it in order, each with what is expected of it after those before
-- it, from reset on; and what was captured of each source fits these replies
pub record IsDoneAt (plan : Plan) (past : List Sighting) (port : ℕ) (history : List (Sent × Pattern)) : Type 0 where
  pub order : asks_in history ≡ asks_done plan port past
  pub lawful : IsSlaveHistory (reset_of plan port) history
  pub captured : (wide : ℕ) → AreEntries wide (exchanges_at plan port wide past) (entries_of wide history)
