-- Why a list of beats spells no message: what breaks the rules of the chapter "Beats and bursts" of the TileLink
-- specification. Which fault is named where several apply is this project's own.
use Rattle.std.specs.Prelude.{◌≡◌, ◌≢◌, ℕ, ◌<◌, List, [], length, slice_get, IsSomeAnd}
use Rattle.tl_types.specs.Fault.{IsFirstOf}
use Rattle.tl_types.specs.List.{FailsFirstAt}
use Rattle.tl_types.specs.Operation.{carries_bytes, reply_carries_bytes}
use Rattle.tl_types.specs.Wire.{IsCodeOf, IsFirstOpFault, reply_opcode_of, IsFirstReplyOpFault}
use Rattle.tl_types.specs.declared.operation.AskOp.{AskOp}
use Rattle.tl_types.specs.declared.operation.ReplyOp.{ReplyOp}
use Rattle.tl_types.specs.declared.limits.TheConstants.{MAX_SIZE}
use Rattle.tl_beats.specs.Beats.{beat_count, IsLawfulMask}
use Rattle.tl_beats.specs.Replies.{IsLawfulFlag}
use Rattle.tl_beats.specs.declared.beat.ABeat.{ABeat}
use Rattle.tl_beats.specs.declared.beat.DBeat.{DBeat}
use Rattle.tl_beats.specs.declared.beat.BeatFault.{BeatFault}
use Rattle.tl_beats.specs.declared.beat.BeatFault.TheVariants.{NoBeat, Op, Size, Count, Changed, Mask, CorruptFlag}

-- two beats of requests have the same shared fields
pub record SameFields (first beat : ABeat) : Type 0 where
  pub opcode : beat.opcode ≡ first.opcode
  pub param : beat.param ≡ first.param
  pub size : beat.size ≡ first.size
  pub source : beat.source ≡ first.source
  pub address : beat.address ≡ first.address

-- two beats of replies have the same shared fields
pub record SameReplyFields (first beat : DBeat) : Type 0 where
  pub opcode : beat.opcode ≡ first.opcode
  pub size : beat.size ≡ first.size
  pub source : beat.source ≡ first.source
  pub denied : beat.denied ≡ first.denied

-- what is said of the first beat, if there is one
abbrev pub OfFirst : {B : Type 0} → List B → (B → Type 0) → Type 0
OfFirst beats P = IsSomeAnd (slice_get beats 0) P

-- what is said of the first beat and the operation that it names, if it names one
abbrev pub OfFirstOp : List ABeat → (ABeat → AskOp → Type 0) → Type 0
OfFirstOp beats P = OfFirst beats (λ first. (op : AskOp) × IsCodeOf op first.opcode first.param × P first op)

-- what is said of the first beat and the reply's opcode that it names, if it names one
abbrev pub OfFirstReplyOp : List DBeat → (DBeat → ReplyOp → Type 0) → Type 0
OfFirstReplyOp beats P = OfFirst beats (λ first. (op : ReplyOp) × (reply_opcode_of op ≡ first.opcode) × P first op)

-- the beats have this fault as a request
abbrev pub HasBeatFault : List ABeat → BeatFault → Type 0
HasBeatFault beats NoBeat = beats ≡ []
HasBeatFault beats (Op fault) = OfFirst beats (λ first. IsFirstOpFault first.opcode first.param fault)
HasBeatFault beats Size = OfFirst beats (λ first. MAX_SIZE < first.size)
HasBeatFault beats Count = OfFirstOp beats (λ first op. length beats ≢ beat_count (carries_bytes op) first.size)
HasBeatFault beats (Changed b) = OfFirst beats (λ first. FailsFirstAt (SameFields first) beats b)
HasBeatFault beats (Mask b) =
    OfFirstOp beats (λ first op. FailsFirstAt (λ beat. IsLawfulMask op first.size first.address beat.mask) beats b)
HasBeatFault beats (CorruptFlag b) = ⊥

-- the beats have this fault as a reply
abbrev pub HasReplyBeatFault : List DBeat → BeatFault → Type 0
HasReplyBeatFault beats NoBeat = beats ≡ []
HasReplyBeatFault beats (Op fault) = OfFirst beats (λ first. IsFirstReplyOpFault first.opcode fault)
HasReplyBeatFault beats Size = OfFirst beats (λ first. MAX_SIZE < first.size)
HasReplyBeatFault beats Count =
    OfFirstReplyOp beats (λ first op. length beats ≢ beat_count (reply_carries_bytes op) first.size)
HasReplyBeatFault beats (Changed b) = OfFirst beats (λ first. FailsFirstAt (SameReplyFields first) beats b)
HasReplyBeatFault beats (Mask b) = ⊥
HasReplyBeatFault beats (CorruptFlag b) =
    OfFirstReplyOp beats (λ first op. FailsFirstAt (λ beat. IsLawfulFlag op first.denied beat.corrupt) beats b)

-- the place of a fault in the order in which faults are tried. If there is a beat, a fault is of the first beat, of the
-- first beat and the operation that it names, or of the lowest beat that breaks a rule.
abbrev pub beat_fault_rank : BeatFault → ℕ
beat_fault_rank NoBeat = 1
beat_fault_rank (Op _) = 2
beat_fault_rank Size = 3
beat_fault_rank Count = 4
beat_fault_rank (Changed _) = 5
beat_fault_rank (Mask _) = 6
beat_fault_rank (CorruptFlag _) = 7

-- the fault is the first one, in that order, that the beats have as a request
abbrev pub IsFirstBeatFault : List ABeat → BeatFault → Type 0
IsFirstBeatFault beats = IsFirstOf (HasBeatFault beats) beat_fault_rank

-- the fault is the first one, in that order, that the beats have as a reply
abbrev pub IsFirstReplyBeatFault : List DBeat → BeatFault → Type 0
IsFirstReplyBeatFault beats = IsFirstOf (HasReplyBeatFault beats) beat_fault_rank
