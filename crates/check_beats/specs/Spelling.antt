-- How a message stands on a bus, beat by beat: the chapter "Beats and bursts" of the TileLink specification.
use Rattle.std.specs.Prelude.{◌≡◌, ℕ, ◌/◌, ◌≤◌, Bool, false, true, List, length, Option, Some, None, slice_get, slice_index, All}
use Rattle.std.specs.Int.{bit_at}
use Rattle.tl_types.specs.Operation.{carries_bytes, reply_carries_bytes, reply_byte_count}
use Rattle.tl_types.specs.Wire.{opcode_of, param_of, reply_opcode_of}
use Rattle.tl_types.specs.Request.{Request, IsLawfulRequest}
use Rattle.tl_types.specs.declared.limits.TheConstants.{MAX_SIZE}
use Rattle.check_cells.specs.Pattern.{Pattern}
use Rattle.check_cells.specs.Sent.{Sent}
use Rattle.check_beats.specs.Bus.{lane_on_bus, beat_count_on_bus}
use Rattle.check_beats.specs.Form.{IsLawfulMaskOnBus, IsRightAskMark, IsRightMark}
use Rattle.check_beats.specs.Message.{is_spoiled, shown_lanes}
use Rattle.check_beats.specs.declared.beat.AskHead.{AskHead}
use Rattle.check_beats.specs.declared.beat.ReplyHead.{ReplyHead}

-- a beat with its lanes
pub record AskBeat : Type 0 where
  pub head : AskHead
  pub lanes : List ℕ

-- by these bits the lanes have this byte at this lane, or none there
abbrev pub StandsAt : ℕ → List ℕ → ℕ → Option ℕ → Type 0
StandsAt mask lanes lane (Some byte) = (bit_at mask lane ≡ 1) × (slice_index lanes lane ≡ byte)
StandsAt mask lanes lane None = bit_at mask lane ≡ 0

-- the fields that each beat of a request shares are the request's; the address does not rise from beat to beat
pub record HasFieldsOf (ask : Request) (beat : AskHead) : Type 0 where
  pub opcode : beat.opcode ≡ opcode_of ask.op
  pub param : beat.param ≡ param_of ask.op
  pub size : beat.size ≡ ask.size
  pub source : beat.source ≡ ask.source
  pub address : beat.address ≡ ask.address

-- a beat is number b of a request as it crossed: a byte that is given is what stands at its lane, or zero if the beat is marked
-- corrupt, and where none is given the mask leaves the lane out
pub record IsBeatOf (bus : ℕ) (sent : Sent) (b : ℕ) (beat : AskBeat) : Type 0 where
  pub fields : HasFieldsOf sent.ask beat.head
  pub mask : IsLawfulMaskOnBus bus sent.ask.op sent.ask.size sent.ask.address beat.head.mask
  pub flag : IsRightAskMark sent.ask.op beat.head.corrupt
  pub marks : (j : ℕ) (mark : Bool) → slice_get sent.spoiled j ≡ Some mark → j / bus ≡ b → mark ≡ beat.head.corrupt
  pub bytes : (j : ℕ) (given : Option ℕ) → slice_get sent.ask.bytes j ≡ Some given → j / bus ≡ b
      → StandsAt beat.head.mask (shown_lanes bus beat.head beat.lanes) (lane_on_bus bus sent.ask.address sent.ask.size j) given

-- the beats spell the request
pub record SpellsAskOnBus (bus : ℕ) (sent : Sent) (beats : List AskBeat) : Type 0 where
  pub count : length beats ≡ beat_count_on_bus bus (carries_bytes sent.ask.op) sent.ask.size
  pub each : (b : ℕ) (beat : AskBeat) → slice_get beats b ≡ Some beat → IsBeatOf bus sent b beat

-- the rule of requests, of one as it crossed: each of its bytes has a mark
pub record IsLawfulSent (sent : Sent) : Type 0 where
  pub lawful : IsLawfulRequest sent.ask.op sent.ask.size sent.ask.bytes
  pub marked : length sent.spoiled ≡ length sent.ask.bytes

-- ---- replies

-- a beat of a reply with its lanes, and the bits of those that are known
pub record ReplyBeat : Type 0 where
  pub head : ReplyHead
  pub known : ℕ
  pub lanes : List ℕ

-- the fields that each beat of a reply shares are the reply's
pub record HasReplyFieldsOf (reply : Pattern) (beat : ReplyHead) : Type 0 where
  pub opcode : beat.opcode ≡ reply_opcode_of reply.op
  pub param : beat.param ≡ 0
  pub size : beat.size ≡ reply.size
  pub source : beat.source ≡ reply.source
  pub denied : reply.denied ≡ Some beat.denied

-- a beat is number b of a reply to a request at the address: a byte that is known is what stands at its lane, and where
-- one is unknown the lane was; the bytes of a denied reply stand nowhere, and those of a corrupt beat are spoiled
pub record IsReplyBeatOf (bus : ℕ) (reply : Pattern) (address b : ℕ) (beat : ReplyBeat) : Type 0 where
  pub fields : HasReplyFieldsOf reply beat.head
  pub corrupt : IsRightMark reply.op beat.head.denied beat.head.corrupt
  pub marks : (j : ℕ) (mark : Bool) → slice_get reply.spoiled j ≡ Some mark → j / bus ≡ b → mark ≡ is_spoiled beat.head
  pub bytes : beat.head.denied ≡ false → beat.head.corrupt ≡ false → (j : ℕ) (byte : Option ℕ) → slice_get reply.bytes j ≡ Some byte → j / bus ≡ b
      → StandsAt beat.known beat.lanes (lane_on_bus bus address reply.size j) byte

-- the beats spell the reply to a request at the address
pub record SpellsReplyOnBus (bus : ℕ) (reply : Pattern) (address : ℕ) (beats : List ReplyBeat) : Type 0 where
  pub count : length beats ≡ beat_count_on_bus bus (reply_carries_bytes reply.op) reply.size
  pub each : (b : ℕ) (beat : ReplyBeat) → slice_get beats b ≡ Some beat → IsReplyBeatOf bus reply address b beat

-- the rule of replies, of one that may be known in part: as many bytes as the opcode carries, all of them zero if it is
-- denied; each has a mark, and nothing is known of one that is spoiled
pub record IsLawfulPattern (reply : Pattern) : Type 0 where
  pub in_limit : reply.size ≤ MAX_SIZE
  pub counted : length reply.bytes ≡ reply_byte_count reply.op reply.size
  pub clean : reply.denied ≡ Some true → All (λ b. b ≡ Some 0) reply.bytes
  pub marked : length reply.spoiled ≡ length reply.bytes
  pub nothing : (place : ℕ) → slice_get reply.spoiled place ≡ Some true → slice_get reply.bytes place ≡ Some None
