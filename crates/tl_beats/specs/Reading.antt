-- What the steps of assembling know: this project's own words.
use Rattle.std.specs.Prelude.{◌≡◌, ℕ, ◌+◌, ◌/◌, ◌%◌, ◌<◌, ◌≤◌, ◌⊎◌, Bool, false, List, length, Option, Some, slice_get, slice_index, IsTrue}
use Rattle.tl_types.specs.List.{HoldsBelow, FailsFirstAt}
use Rattle.tl_types.specs.Operation.{carries_bytes, byte_count, reply_carries_bytes, reply_byte_count}
use Rattle.tl_types.specs.Wire.{IsCodeOf, reply_opcode_of}
use Rattle.tl_types.specs.declared.operation.AskOp.{AskOp}
use Rattle.tl_beats.specs.Beats.{lane_of, beat_count, IsLawfulMask, StandsAt}
use Rattle.tl_beats.specs.Replies.{IsLawfulFlag}
use Rattle.tl_beats.specs.Faults.{SameFields, SameReplyFields}
use Rattle.tl_types.specs.declared.operation.ReplyOp.{ReplyOp}
use Rattle.tl_beats.specs.declared.beat.ABeat.{ABeat}
use Rattle.tl_beats.specs.declared.beat.DBeat.{DBeat}
use Rattle.tl_beats.specs.declared.beat.BeatFault.{BeatFault}
use Rattle.tl_beats.specs.declared.beat.BeatFault.TheVariants.{NoBeat, Op, Size, Count, Changed, Mask, CorruptFlag}
use Rattle.tl_types.specs.declared.limits.TheConstants.{BUS_BYTES, MAX_SIZE}

-- beats whose first one has no fault
pub record IsBegun (beats : List ABeat) (first : ABeat) (op : AskOp) : Type 0 where
  pub head : slice_get beats 0 ≡ Some first
  pub code : IsCodeOf op first.opcode first.param
  pub in_limit : first.size ≤ MAX_SIZE
  pub count : length beats ≡ beat_count (carries_bytes op) first.size

-- a list has gained this many elements at its end, of which the k-th has the property `P k`, and kept the others
pub record Gains {X : Type 0} (P : ℕ → X → Type 0) (count : ℕ) (old new : List X) : Type 0 where
  pub counted : length new ≡ length old + count
  pub each : (j : ℕ) (x : X) → slice_get new j ≡ Some x
      → (slice_get old j ≡ Some x) ⊎ ((k : ℕ) × (j ≡ length old + k) × (k < count) × P k x)

-- what a list of bytes has gained stands at the lanes of the beat from `first` on
abbrev pub GainsLanes : ABeat → ℕ → ℕ → List (Option ℕ) → List (Option ℕ) → Type 0
GainsLanes beat first = Gains (λ k given. StandsAt beat.mask beat.lanes (first + k) given)

-- the mask of the beat is lawful in a request that begins with `first`
abbrev pub HasLawfulMask : AskOp → ABeat → ABeat → Type 0
HasLawfulMask op first beat = IsLawfulMask op first.size first.address beat.mask

-- the beats all agree with the first, and each mask is lawful
pub record AreFaultless (beats : List ABeat) (first : ABeat) (op : AskOp) : Type 0 where
  pub same : HoldsBelow (SameFields first) beats (length beats)
  pub masks : HoldsBelow (HasLawfulMask op first) beats (length beats)

-- the bytes are those that stand in the beats
pub record AreBytesOf (beats : List ABeat) (first : ABeat) (op : AskOp) (bytes : List (Option ℕ)) : Type 0 where
  pub counted : length bytes ≡ byte_count op first.size
  pub each : (j : ℕ) (given : Option ℕ) (beat : ABeat) → slice_get bytes j ≡ Some given
      → slice_get beats (j / BUS_BYTES) ≡ Some beat
      → StandsAt beat.mask beat.lanes (lane_of first.address first.size j) given

-- the beats all agree with the first, each mask is lawful, and the bytes are those that stand in the beats
pub record IsReadFrom (beats : List ABeat) (first : ABeat) (op : AskOp) (bytes : List (Option ℕ)) : Type 0 where
  pub same : HoldsBelow (SameFields first) beats (length beats)
  pub masks : HoldsBelow (HasLawfulMask op first) beats (length beats)
  pub counted : length bytes ≡ byte_count op first.size
  pub each : (j : ℕ) (given : Option ℕ) (beat : ABeat) → slice_get bytes j ≡ Some given
      → slice_get beats (j / BUS_BYTES) ≡ Some beat
      → StandsAt beat.mask beat.lanes (lane_of first.address first.size j) given

-- the fault is the first one that shows in the beats, one by one, of a request whose count and operation are known
abbrev pub IsFaultOfBeats : List ABeat → ABeat → AskOp → BeatFault → Type 0
IsFaultOfBeats beats first op NoBeat = ⊥
IsFaultOfBeats beats first op (Op _) = ⊥
IsFaultOfBeats beats first op Size = ⊥
IsFaultOfBeats beats first op Count = ⊥
IsFaultOfBeats beats first op (Changed b) = FailsFirstAt (SameFields first) beats b
IsFaultOfBeats beats first op (Mask b) =
    HoldsBelow (SameFields first) beats (length beats) × FailsFirstAt (HasLawfulMask op first) beats b
IsFaultOfBeats beats first op (CorruptFlag b) = ⊥

-- beats of a reply whose first one has no fault
pub record IsReplyBegun (beats : List DBeat) (first : DBeat) (op : ReplyOp) : Type 0 where
  pub head : slice_get beats 0 ≡ Some first
  pub code : reply_opcode_of op ≡ first.opcode
  pub in_limit : first.size ≤ MAX_SIZE
  pub count : length beats ≡ beat_count (reply_carries_bytes op) first.size

-- a byte of a reply stands at a lane, or is zero if the reply is denied
pub record StandsInReply (denied : Bool) (lanes : List ℕ) (lane byte : ℕ) : Type 0 where
  pub given : denied ≡ false → slice_index lanes lane ≡ byte
  pub zero_of_denied : IsTrue denied → byte ≡ 0

-- `corrupt` of the beat is lawful in a reply that begins with `first`
abbrev pub HasLawfulFlag : ReplyOp → DBeat → DBeat → Type 0
HasLawfulFlag op first beat = IsLawfulFlag op first.denied beat.corrupt

-- the beats all agree with the first, and each `corrupt` is lawful
pub record AreFaultlessReply (beats : List DBeat) (first : DBeat) (op : ReplyOp) : Type 0 where
  pub same : HoldsBelow (SameReplyFields first) beats (length beats)
  pub flags : HoldsBelow (HasLawfulFlag op first) beats (length beats)

-- the bytes begin with the lanes of all beats, one beat after the other
abbrev pub AreLanesOf : List DBeat → List ℕ → Type 0
AreLanesOf beats bytes =
    (j : ℕ) (beat : DBeat) → slice_get beats (j / BUS_BYTES) ≡ Some beat
    → slice_index bytes j ≡ slice_index beat.lanes (j % BUS_BYTES)

-- the bytes are those that stand in the beats
pub record AreReplyBytesOf (beats : List DBeat) (first : DBeat) (op : ReplyOp) (address : ℕ)
    (bytes : List ℕ) : Type 0 where
  pub counted : length bytes ≡ reply_byte_count op first.size
  pub each : (j byte : ℕ) (beat : DBeat) → slice_get bytes j ≡ Some byte → slice_get beats (j / BUS_BYTES) ≡ Some beat
      → StandsInReply first.denied beat.lanes (lane_of address first.size j) byte

-- the beats all agree with the first, each `corrupt` is lawful, and the bytes are those that stand in the beats
pub record IsReplyReadFrom (beats : List DBeat) (first : DBeat) (op : ReplyOp) (address : ℕ)
    (bytes : List ℕ) : Type 0 where
  pub same : HoldsBelow (SameReplyFields first) beats (length beats)
  pub flags : HoldsBelow (HasLawfulFlag op first) beats (length beats)
  pub counted : length bytes ≡ reply_byte_count op first.size
  pub each : (j byte : ℕ) (beat : DBeat) → slice_get bytes j ≡ Some byte → slice_get beats (j / BUS_BYTES) ≡ Some beat
      → StandsInReply first.denied beat.lanes (lane_of address first.size j) byte

-- the fault is the first one that shows in the beats, one by one, of a reply whose count and opcode are known
abbrev pub IsFaultOfReplyBeats : List DBeat → DBeat → ReplyOp → BeatFault → Type 0
IsFaultOfReplyBeats beats first op NoBeat = ⊥
IsFaultOfReplyBeats beats first op (Op _) = ⊥
IsFaultOfReplyBeats beats first op Size = ⊥
IsFaultOfReplyBeats beats first op Count = ⊥
IsFaultOfReplyBeats beats first op (Changed b) = FailsFirstAt (SameReplyFields first) beats b
IsFaultOfReplyBeats beats first op (Mask b) = ⊥
IsFaultOfReplyBeats beats first op (CorruptFlag b) =
    HoldsBelow (SameReplyFields first) beats (length beats) × FailsFirstAt (HasLawfulFlag op first) beats b
