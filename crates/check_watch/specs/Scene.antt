-- What a beat finds at its link and in its port, and what it makes of that: messages and their order by the chapters
-- "Beats and bursts" and "TL-UL and TL-UH operations" of the TileLink specification; when a request takes effect is the
-- system's own affair.
use Rattle.std.specs.Prelude.{ℕ, Bool, true, false, ◌&&◌, if◌then◌else◌, List, Option, Some, None, IsTrue, IsSomeAnd}
use Rattle.check_cells.specs.Pattern.{Pattern}
use Rattle.check_cells.specs.Sent.{Sent}
use Rattle.check_beats.specs.State.{Under, AskBegun, ReplyBegun, ends_ask, ends_reply, ask_of, reply_of}
use Rattle.check_beats.specs.declared.beat.AskHead.{AskHead}
use Rattle.check_beats.specs.declared.beat.ReplyHead.{ReplyHead}
use Rattle.check_flight.specs.declared.answer.Answer.{Answer}
use Rattle.check_flight.specs.Crossing.{Crossing, given}
use Rattle.check_flight.specs.Crossing.Crossing.{Waiting, Crossed, Given}
use Rattle.check_flight.specs.Flight.{Turn, Flight, idle, asked, flight_due}
use Rattle.check_flight.specs.Flight.Turn.{Idle, Asking, Asked}
use Rattle.check_flight.specs.PortSlave.{PortSlave, answering, due_accepting, due_answering, may_need_to_accept, may_need_to_answer}
use Rattle.check_flight.specs.Side.{ask_crossed, reply_crossed}
use Rattle.check_watch.specs.declared.beat.Beat.{Beat}
use Rattle.check_watch.specs.declared.beat.Beat.TheVariants.{A, D}
use Rattle.check_watch.specs.declared.beat.Link.{Link}
use Rattle.check_watch.specs.declared.beat.Link.TheVariants.{Master, Port}
use Rattle.check_watch.specs.declared.seen.SeenEntry.{SeenEntry}
use Rattle.check_watch.specs.declared.seen.Seen.{Seen}
use Rattle.check_watch.specs.declared.seen.Seen.TheVariants.{Part, WholeAsk, WholeReply}
use Rattle.check_watch.specs.declared.seen.Ended.{Ended}
use Rattle.check_watch.specs.declared.seen.Ended.TheVariants as ends
use Rattle.check_watch.specs.Plan.{Layout, link_number, crosses_at_port}

-- the messages under way at its link, its wide source, what is in flight of that on its side and on the masters' side,
-- how far it has come across, and the port that its request goes to, with what the slave there holds
pub record Scene : Type 0 where
  pub under : Under
  pub wide : ℕ
  pub flight : Flight
  pub sent : Turn
  pub crossing : Crossing
  pub port : ℕ
  pub slave : PortSlave

-- ---- messages

-- the request that a beat ends, if it ends one
abbrev pub ask_by : Under → AskHead → List ℕ → Option Sent
ask_by under beat lanes =
    if ends_ask under.bus under.asking beat then Some (ask_of under.bus under.asking beat lanes) else None

-- no beat of a request is under way
abbrev pub begins_request : Option AskBegun → Bool
begins_request None = true
begins_request (Some begun) = false

-- no beat of a reply is under way
abbrev pub begins_reply : Option ReplyBegun → Bool
begins_reply None = true
begins_reply (Some begun) = false

-- the beat is the first of its message
abbrev pub begins : Under → Beat → Bool
begins under (A beat) = begins_request under.asking
begins under (D beat) = begins_reply under.replying

-- the address of the request in flight, if it has ended
abbrev pub address_in : Turn → ℕ
address_in Idle = 0
address_in (Asking number) = 0
address_in (Asked number sent) = sent.ask.address

-- the reply that a beat ends, as it was captured
abbrev pub captured : Under → Turn → ReplyHead → ℕ → List ℕ → Pattern
captured under turn beat known lanes = reply_of under.bus under.replying (address_in turn) beat known lanes

-- the messages under way after a beat
abbrev pub under_after : Under → Beat → ℕ → List ℕ → Under
under_after under (A beat) known lanes = ask_crossed under beat lanes
under_after under (D beat) known lanes = reply_crossed under beat known lanes

-- ---- slaves

-- this port's slave accepts and answers requests as they are seen at this link: at each port's link that is judged, and
-- at the masters' links if requests to the port are not seen again at a port's link of the group. (What a request leaves
-- and what it is answered does not depend on its source.)
abbrev pub takes_effect : Layout → Link → ℕ → Bool
takes_effect layout (Port p) port = true
takes_effect layout (Master m) port = if crosses_at_port layout port then false else true

-- the request, if there is one and this holds
abbrev pub ask_if : Bool → Option Sent → Option Sent
ask_if true sent = sent
ask_if false sent = None

-- the request that the slave accepts, with the beat that ends it
abbrev pub accepted : Layout → Link → Scene → Beat → List ℕ → Option Sent
accepted layout link scene (A beat) lanes =
    ask_if (takes_effect layout link scene.port) (ask_by scene.under beat lanes)
accepted layout link scene (D beat) lanes = None

-- the request of this port that the slave answers, with the first beat of its reply
abbrev pub answered : Layout → Link → ℕ → Option ReplyBegun → Turn → Option Sent
answered layout link port begun turn = ask_if (takes_effect layout link port && begins_reply begun) (asked turn)

-- the slave may need memory with a beat, by what the beat finds: to accept the request that it ends, or to answer the one
-- whose reply it begins
abbrev pub SlaveMayNeed : Layout → Link → Scene → Beat → List ℕ → Type 0
SlaveMayNeed layout link scene (A beat) lanes =
    IsSomeAnd (accepted layout link scene (A beat) lanes) (λ sent. IsTrue (may_need_to_accept scene.slave sent))
SlaveMayNeed layout link scene (D beat) lanes =
    IsSomeAnd (answered layout link scene.port scene.under.replying scene.flight.turn)
    (λ sent. IsTrue (may_need_to_answer scene.slave sent))

-- ---- what a beat finds, once the slave has answered the request whose reply begins with it

-- what a beat finds then: the slave after its answer, and what the reply has to fit if that is known then. A beat of a
-- request finds what it found.
abbrev pub once_answered : Layout → Link → Scene → Beat → Scene
once_answered layout link scene (A beat) = scene
once_answered layout link scene (D beat) =
    let sent = answered layout link scene.port scene.under.replying scene.flight.turn in
    record scene {
      flight = flight_due scene.flight (due_answering scene.port scene.slave scene.wide sent);
      slave = answering scene.slave scene.wide sent;
    }

-- ---- what is in flight

-- a source is in flight from the first beat of its request to the last beat of its reply
abbrev pub turn_by : ℕ → Option Sent → Turn
turn_by number None = Asking number
turn_by number (Some sent) = Asked number sent

-- what is in flight of the beat's source on its side after the beat; the last beat of a reply leaves nothing.
abbrev pub flight_after : Layout → Link → Scene → Beat → List ℕ → Flight
flight_after layout link scene (A beat) lanes = record {
  turn = turn_by (link_number link) (ask_by scene.under beat lanes);
  due = due_accepting scene.port scene.slave (accepted layout link scene (A beat) lanes);
}
flight_after layout link scene (D beat) lanes =
    if ends_reply scene.under.bus scene.under.replying beat then idle else scene.flight

-- ---- crossing

-- the port gives this captured reply, if one is due
abbrev pub given_by : Option Answer → Pattern → Crossing → Crossing
given_by None reply before = before
given_by (Some answer) reply before = Given (record answer { reply = reply })

-- how far a request has come: it waits at its master's link, a port has taken it, the port has given its reply
abbrev pub crossing_after : Link → Scene → Beat → ℕ → List ℕ → Crossing
crossing_after (Master m) scene (A beat) known lanes = Waiting
crossing_after (Master m) scene (D beat) known lanes = scene.crossing
crossing_after (Port p) scene (A beat) known lanes =
    if ends_ask scene.under.bus scene.under.asking beat then Crossed else scene.crossing
crossing_after (Port p) scene (D beat) known lanes =
    if ends_reply scene.under.bus scene.under.replying beat
    then given_by scene.flight.due (captured scene.under scene.flight.turn beat known lanes) scene.crossing
    else scene.crossing

-- ---- the reply that must come

-- the reply that must come is the one that the port gave
abbrev pub is_given : Layout → Link → ℕ → Bool
is_given layout (Master m) port = crosses_at_port layout port
is_given layout (Port p) port = false

-- what the port gave, or else what its slave expects
abbrev pub must_by : Bool → Crossing → Option Answer → Option Answer
must_by true crossing due = given crossing
must_by false crossing due = due

-- ---- what a beat ends

-- the entry of a reply that was captured: its request, the reply, and the port with the request's place there, which
-- stand in what was due.
abbrev pub seen_entry : Sent → Pattern → Answer → SeenEntry
seen_entry sent reply answer = record { sent = sent; reply = reply; port = answer.port; index = answer.index }

-- the reply to what is in flight, if this is due
abbrev pub seen_reply : Turn → Pattern → Option Answer → Seen
seen_reply (Asked number sent) reply (Some answer) = WholeReply (seen_entry sent reply answer)
seen_reply (Asked number sent) reply None = Part
seen_reply (Asking number) reply answer = Part
seen_reply Idle reply answer = Part

-- a request that has ended is a whole one; if there is none, the beat was a part of one.
abbrev pub seen_ask : Option Sent → Seen
seen_ask None = Part
seen_ask (Some sent) = WholeAsk

-- what the beat ends: a part of a message ends none, a request, or a reply, told with its request
abbrev pub seen : Layout → Link → Scene → Beat → ℕ → List ℕ → Seen
seen layout link scene (A beat) known lanes = seen_ask (ask_by scene.under beat lanes)
seen layout link scene (D beat) known lanes =
    if ends_reply scene.under.bus scene.under.replying beat
    then seen_reply scene.flight.turn (captured scene.under scene.flight.turn beat known lanes)
    (must_by (is_given layout link scene.port) scene.crossing scene.flight.due)
    else Part

-- the same, without the reply
abbrev pub ended_by : Seen → Ended
ended_by Part = ends.Part
ended_by WholeAsk = ends.Ask
ended_by (WholeReply entry) = ends.Reply
