-- How a reply stands on the bus, beat by beat: the chapter "Beats and bursts" of the TileLink specification, but for
-- `corrupt`, which is this project's choice. A beat of a reply has no mask and no address: the request's address is
-- handed in, and chooses the lanes of a reply smaller than the bus.
use Rattle.std.specs.Prelude.{◌≡◌, ℕ, ◌/◌, ◌<◌, Bool, false, ◌&&◌, List, length, Some, slice_get, slice_index, IsTrue}
use Rattle.tl_types.specs.Operation.{reply_carries_bytes}
use Rattle.tl_types.specs.Wire.{reply_opcode_of}
use Rattle.tl_types.specs.Response.{Response}
use Rattle.tl_types.specs.declared.operation.ReplyOp.{ReplyOp}
use Rattle.tl_beats.specs.Beats.{lane_of, beat_count, IsActive}
use Rattle.tl_beats.specs.declared.beat.DBeat.{DBeat}
use Rattle.tl_types.specs.declared.limits.TheConstants.{BUS_BYTES}

-- `corrupt` is lawful if it is set only in a beat that carries bytes of a denied reply
pub record IsLawfulFlag (op : ReplyOp) (denied corrupt : Bool) : Type 0 where
  pub carries : IsTrue corrupt → IsTrue (reply_carries_bytes op)
  pub of_denied : IsTrue corrupt → IsTrue denied

-- the fields that each beat of a reply shares are the reply's
pub record HasReplyFieldsOf (reply : Response) (beat : DBeat) : Type 0 where
  pub opcode : beat.opcode ≡ reply_opcode_of reply.op
  pub size : beat.size ≡ reply.size
  pub source : beat.source ≡ reply.source
  pub denied : beat.denied ≡ reply.denied

-- a beat is number b of a reply to a request at the address; the bytes of a denied reply stand nowhere
pub record IsReplyBeatOf (reply : Response) (address b : ℕ) (beat : DBeat) : Type 0 where
  pub fields : HasReplyFieldsOf reply beat
  pub corrupt : IsLawfulFlag reply.op reply.denied beat.corrupt
  pub bytes : reply.denied ≡ false → (j byte : ℕ) → slice_get reply.bytes j ≡ Some byte → j / BUS_BYTES ≡ b
      → slice_index beat.lanes (lane_of address reply.size j) ≡ byte

-- the beats spell the reply to a request at the address
pub record SpellsReply (reply : Response) (address : ℕ) (beats : List DBeat) : Type 0 where
  pub count : length beats ≡ beat_count (reply_carries_bytes reply.op) reply.size
  pub each : (b : ℕ) (beat : DBeat) → slice_get beats b ≡ Some beat → IsReplyBeatOf reply address b beat

-- a beat has zeros on the lanes that carry nothing, and is marked corrupt just if it carries a denied reply's bytes:
-- this project's own rule
pub record IsCleanReply (reply : Response) (address : ℕ) (beat : DBeat) : Type 0 where
  pub without_bytes : reply_carries_bytes reply.op ≡ false → (k : ℕ) → k < BUS_BYTES → slice_index beat.lanes k ≡ 0
  pub denied : IsTrue reply.denied → (k : ℕ) → k < BUS_BYTES → slice_index beat.lanes k ≡ 0
  pub inactive : (k : ℕ) → k < BUS_BYTES → (IsActive address reply.size k → ⊥) → slice_index beat.lanes k ≡ 0
  pub marked : beat.corrupt ≡ (reply_carries_bytes reply.op && reply.denied)
