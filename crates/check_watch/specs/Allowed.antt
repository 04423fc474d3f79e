-- When a beat is lawful, by what it finds: the chapters "Beats and bursts" and "TL-UL and TL-UH operations" of the
-- TileLink specification; sources, the address map, crossing and unknown lanes are this project's own.
use Rattle.std.specs.Prelude.{◌≡◌, ℕ, Bool, true, false, List, Option, None, IsTrue, IsSomeAnd}
use Rattle.tl_types.specs.Operation.{reply_op_of}
use Rattle.tl_types.specs.Request.{Request}
use Rattle.tl_types.specs.Wire.{reply_opcode_of}
use Rattle.check_cells.specs.Pattern.{Pattern, FitsCaptured}
use Rattle.check_cells.specs.Sent.{Sent}
use Rattle.check_beats.specs.Form.{FitsAsk, FitsReply, IsKnown, IsKnownReply}
use Rattle.check_beats.specs.Rules.{IsAlignedBy, IsAskMarkedBy, IsMarkedBy}
use Rattle.check_beats.specs.State.{first_ask, first_reply, ends_ask, ends_reply, ask_of}
use Rattle.check_beats.specs.declared.beat.AskHead.{AskHead}
use Rattle.check_beats.specs.declared.beat.ReplyHead.{ReplyHead}
use Rattle.check_flight.specs.declared.answer.Answer.{Answer}
use Rattle.check_flight.specs.Crossing.{Crossing, given, IsSameReply, IsSameSent}
use Rattle.check_flight.specs.Crossing.Crossing.{Waiting}
use Rattle.check_flight.specs.Flight.{Turn}
use Rattle.check_flight.specs.Flight.Turn.{Idle, Asking, Asked}
use Rattle.check_flight.specs.PortSlave.{may_be_unknown}
use Rattle.check_watch.specs.declared.beat.Link.{Link}
use Rattle.check_watch.specs.declared.beat.Link.TheVariants.{Master, Port}
use Rattle.check_watch.specs.declared.links.Links.TheVariants.{Both}
use Rattle.check_watch.specs.Plan.{RoutesWide, Layout, HasSource, link_number, are_both, wider_bus}
use Rattle.check_watch.specs.Scene.{Scene, captured, is_given}

-- ---- requests

-- requests of the master that has the source go to the port of this link at this address
abbrev pub IsPlaced : Layout → Link → AskHead → Type 0
IsPlaced layout (Master m) beat = Unit {0}
IsPlaced layout (Port p) beat = RoutesWide layout beat.source beat.address beat.size p

-- the request in flight of a master has ended, and is the one that was seen at the link of a port, in cuts of the wider of the
-- two buses
abbrev pub IsAskedAs : Layout → ℕ → Turn → Sent → Type 0
IsAskedAs layout port Idle seen = ⊥
IsAskedAs layout port (Asking number) seen = ⊥
IsAskedAs layout port (Asked number sent) seen = IsSameSent (wider_bus layout (Master number) port) sent seen

-- a request at a port's link, if both sides are watched: the master that owns its source has it in flight, ended,
-- and it has not crossed before
abbrev pub IsSent : Layout → Link → Turn → Crossing → Sent → Type 0
IsSent layout (Master m) sent crossing seen = Unit {0}
IsSent layout (Port p) sent crossing seen = layout.links ≡ Both → IsAskedAs layout p sent seen × (crossing ≡ Waiting)

-- requests at a link are sent at another first
abbrev pub is_second : Layout → Link → Bool
is_second layout (Master m) = false
is_second layout (Port p) = are_both layout.links

-- a request begins while none of its source is in flight on this side
abbrev pub BeginsFree : Scene → Type 0
BeginsFree scene = scene.under.asking ≡ None → scene.flight.turn ≡ Idle

-- a request begins at its port
abbrev pub BeginsPlaced : Layout → Link → Scene → AskHead → Type 0
BeginsPlaced layout link scene beat = scene.under.asking ≡ None → IsPlaced layout link beat

-- a request that ends was sent
abbrev pub EndsSent : Layout → Link → Scene → AskHead → List ℕ → Type 0
EndsSent layout link scene beat lanes =
    IsTrue (ends_ask scene.under.bus scene.under.asking beat)
    → IsSent layout link scene.sent scene.crossing (ask_of scene.under.bus scene.under.asking beat lanes)

-- a beat of a request is lawful
pub record IsAllowedAsk (layout : Layout) (link : Link) (scene : Scene) (beat : AskHead) (known : ℕ) (lanes : List ℕ)
    : Type 0 where
  -- it is one of the message under way, its address is a multiple of its size if that is asked, it is marked corrupt only if
  -- that is allowed, and each lane that carries a byte is known
  pub fits : FitsAsk scene.under.bus (first_ask scene.under.asking) beat
  pub aligned : IsAlignedBy layout.rules beat
  pub marked : IsAskMarkedBy layout.rules beat
  pub known_lanes : IsKnown beat known
  pub source : HasSource layout link beat.source
  pub free : BeginsFree scene
  pub placed : BeginsPlaced layout link scene beat
  pub sent : EndsSent layout link scene beat lanes

-- ---- replies

-- what is said of the request of the source that has ended at this link, if there is one in flight
abbrev pub OfAsked : ℕ → Turn → (Request → Type 0) → Type 0
OfAsked number Idle P = ⊥
OfAsked number (Asking at) P = ⊥
OfAsked number (Asked at sent) P = (at ≡ number) × P sent.ask

-- each lane that carries a byte of the reply is known, if the slave may leave none unknown. Of a denied reply no lane is
-- looked at.
abbrev pub HasKnownLanes : ℕ → Bool → Request → ReplyHead → ℕ → Type 0
HasKnownLanes bus unknown ask beat known = unknown ≡ false → IsKnownReply bus ask.address beat known

-- the beat is one of a reply to this request
pub record IsAnswer (bus : ℕ) (unknown : Bool) (beat : ReplyHead) (known : ℕ) (ask : Request) : Type 0 where
  pub size : beat.size ≡ ask.size
  pub opcode : beat.opcode ≡ reply_opcode_of (reply_op_of ask.op)
  pub lanes : HasKnownLanes bus unknown ask beat known

-- a captured reply is the one that must come: across, the one that the port gave, in cuts of the wider of the two buses; else
-- one that fits what the port's slave expects
abbrev pub IsMust : Bool → ℕ → Crossing → Option Answer → Pattern → Type 0
IsMust true wider crossing due reply = IsSomeAnd (given crossing) (λ answer. IsSameReply wider answer.reply reply)
IsMust false wider crossing due reply = IsSomeAnd due (λ answer. FitsCaptured answer.reply reply)

-- a reply that ends is the one that must come
abbrev pub EndsWell : Layout → Link → Scene → ReplyHead → ℕ → List ℕ → Type 0
EndsWell layout link scene beat known lanes =
    IsTrue (ends_reply scene.under.bus scene.under.replying beat)
    → IsMust (is_given layout link scene.port) (wider_bus layout link scene.port) scene.crossing scene.flight.due
    (captured scene.under scene.flight.turn beat known lanes)

-- a beat of a reply is lawful
pub record IsAllowedReply (layout : Layout) (link : Link) (scene : Scene) (beat : ReplyHead) (known : ℕ)
    (lanes : List ℕ) : Type 0 where
  -- it is one of the message under way, and is marked corrupt only if that is allowed
  pub fits : FitsReply (first_reply scene.under.replying) beat
  pub marked : IsMarkedBy layout.rules beat
  pub source : HasSource layout link beat.source
  -- the request of its source that is in flight has ended, and it answers that
  pub answers : OfAsked (link_number link) scene.flight.turn
      (IsAnswer scene.under.bus (may_be_unknown scene.slave) beat known)
  pub ends : EndsWell layout link scene beat known lanes
