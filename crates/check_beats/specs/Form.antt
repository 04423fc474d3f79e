-- When a beat is one of a lawful message, after the first beat of the message that is under way on its channel: the
-- chapter "Beats and bursts" of the TileLink specification. That lanes may be unknown, and which fault is named where
-- several apply, is this project's own.
use Rattle.std.specs.Prelude.{◌≡◌, ◌≢◌, ℕ, ◌<◌, ◌≤◌, ◌⊎◌, Bool, true, false, Option, Some, bit_and}
use Rattle.tl_types.specs.Fault.{IsFirstOf}
use Rattle.tl_types.specs.Operation.{carries_bytes, may_leave_unset, reply_carries_bytes}
use Rattle.tl_types.specs.Wire.{IsCodeOf, reply_opcode_of}
use Rattle.tl_types.specs.declared.operation.AskOp.{AskOp}
use Rattle.tl_types.specs.declared.operation.ReplyOp.{ReplyOp}
use Rattle.tl_types.specs.declared.limits.TheConstants.{MAX_SIZE}
use Rattle.check_beats.specs.Bus.{active_mask_on_bus}
use Rattle.check_beats.specs.declared.beat.AskHead.{AskHead}
use Rattle.check_beats.specs.declared.beat.ReplyHead.{ReplyHead}
use Rattle.check_beats.specs.declared.fault.FormFault.{FormFault}
use Rattle.check_beats.specs.declared.fault.FormFault.TheVariants.{Changed, Opcode, Param, Size, Unaligned, Mask, CorruptFlag, UnknownData}
use Rattle.check_beats.specs.declared.rules.LinkRules.{LinkRules}
use Rattle.check_beats.specs.Rules.{IsAlignedBy, IsAskMarkedBy, IsMarkedBy}

-- the beat has the fields of the first beat of the message that is under way, if one is
abbrev pub Continues : {B : Type 0} → (B → B → Type 0) → Option B → B → Type 0
Continues {B} Same begun beat = (first : B) → begun ≡ Some first → Same first beat

-- ---- requests

-- a mask is lawful if it sets just the active lanes, or some of them if bytes may be left unset
pub record IsLawfulMaskOnBus (bus : ℕ) (op : AskOp) (size address mask : ℕ) : Type 0 where
  pub whole : may_leave_unset op ≡ false → mask ≡ active_mask_on_bus bus address size
  pub part : may_leave_unset op ≡ true → bit_and mask (active_mask_on_bus bus address size) ≡ mask

-- two beats of requests have the same shared fields
pub record SameFields (first beat : AskHead) : Type 0 where
  pub opcode : beat.opcode ≡ first.opcode
  pub param : beat.param ≡ first.param
  pub size : beat.size ≡ first.size
  pub source : beat.source ≡ first.source
  pub address : beat.address ≡ first.address

-- a beat of a request that carries no bytes is not marked corrupt
abbrev pub IsRightAskMark : AskOp → Bool → Type 0
IsRightAskMark op corrupt = carries_bytes op ≡ false → corrupt ≡ false

-- a beat of a request is lawful alone: its opcode and parameter name an operation, its size is within the limit, its
-- mask is that of a request of this operation, size and address, and it is marked corrupt only if it carries bytes
pub record IsFormed (bus : ℕ) (beat : AskHead) : Type 0 where
  pub op : AskOp
  pub code : IsCodeOf op beat.opcode beat.param
  pub in_limit : beat.size ≤ MAX_SIZE
  pub mask : IsLawfulMaskOnBus bus op beat.size beat.address beat.mask
  pub flag : IsRightAskMark op beat.corrupt

-- the beat is lawful alone, and is one of the request that is under way, if one is
pub record FitsAsk (bus : ℕ) (begun : Option AskHead) (beat : AskHead) : Type 0 where
  pub formed : IsFormed bus beat
  pub same : Continues SameFields begun beat

-- each lane that carries a byte is known, by the bits of `known`: opcodes 0 to 3 carry bytes, on the lanes of the mask. Of a
-- beat that is marked corrupt no lane is looked at
abbrev pub IsKnown : AskHead → ℕ → Type 0
IsKnown beat known = beat.opcode < 4 → beat.corrupt ≡ false → bit_and beat.mask known ≡ beat.mask

-- the beat has this fault as one of a request. Each fault is the failure of a line of `IsFormed` or `Continues`, but for
-- `Unaligned`, which the rules of the links say, and `UnknownData`, the failure of `IsKnown`. `CorruptFlag` is also the failure
-- of `IsAskMarkedBy`.
abbrev pub HasAskFormFault : ℕ → LinkRules → Option AskHead → AskHead → ℕ → FormFault → Type 0
HasAskFormFault bus rules begun beat known Changed = Continues SameFields begun beat → ⊥
HasAskFormFault bus rules begun beat known Opcode = (op : AskOp) → IsCodeOf op beat.opcode beat.param → ⊥
HasAskFormFault bus rules begun beat known Param = ⊥
HasAskFormFault bus rules begun beat known Size = MAX_SIZE < beat.size
HasAskFormFault bus rules begun beat known Unaligned = IsAlignedBy rules beat → ⊥
HasAskFormFault bus rules begun beat known Mask =
    (op : AskOp) × IsCodeOf op beat.opcode beat.param × (IsLawfulMaskOnBus bus op beat.size beat.address beat.mask → ⊥)
HasAskFormFault bus rules begun beat known CorruptFlag =
    ((op : AskOp) × IsCodeOf op beat.opcode beat.param × (IsRightAskMark op beat.corrupt → ⊥))
    ⊎ (IsAskMarkedBy rules beat → ⊥)
HasAskFormFault bus rules begun beat known UnknownData =
    (beat.opcode < 4) × (beat.corrupt ≡ false) × (bit_and beat.mask known ≢ beat.mask)

-- ---- replies

-- a beat that carries no bytes is not marked corrupt, and one that carries bytes of a denied reply is
pub record IsRightMark (op : ReplyOp) (denied corrupt : Bool) : Type 0 where
  pub bare : reply_carries_bytes op ≡ false → corrupt ≡ false
  pub refused : denied ≡ true → reply_carries_bytes op ≡ true → corrupt ≡ true

-- two beats of replies have the same shared fields
pub record SameReplyFields (first beat : ReplyHead) : Type 0 where
  pub opcode : beat.opcode ≡ first.opcode
  pub param : beat.param ≡ first.param
  pub size : beat.size ≡ first.size
  pub source : beat.source ≡ first.source
  pub denied : beat.denied ≡ first.denied

-- a beat of a reply is lawful alone, whatever the bus; its parameter is 0, since no operation of these links has another
pub record IsFormedReply (beat : ReplyHead) : Type 0 where
  pub op : ReplyOp
  pub code : reply_opcode_of op ≡ beat.opcode
  pub param : beat.param ≡ 0
  pub in_limit : beat.size ≤ MAX_SIZE
  pub flag : IsRightMark op beat.denied beat.corrupt

-- the beat is lawful alone, and is one of the reply that is under way, if one is.
pub record FitsReply (begun : Option ReplyHead) (beat : ReplyHead) : Type 0 where
  pub formed : IsFormedReply beat
  pub same : Continues SameReplyFields begun beat

-- each lane that carries a byte of a reply to a request at the address is known: opcode 1 carries bytes, and of a beat that
-- is denied or marked corrupt no lane is looked at
abbrev pub IsKnownReply : ℕ → ℕ → ReplyHead → ℕ → Type 0
IsKnownReply bus address beat known =
    beat.opcode ≡ 1 → beat.denied ≡ false → beat.corrupt ≡ false
    → bit_and (active_mask_on_bus bus address beat.size) known ≡ active_mask_on_bus bus address beat.size

-- the beat has this fault as one of a reply; which of its lanes carry a byte is said by the request that it answers, and
-- so not here. Each fault is the failure of a line of `IsFormedReply` or `Continues`, or of `IsMarkedBy`.
abbrev pub HasReplyFormFault : LinkRules → Option ReplyHead → ReplyHead → FormFault → Type 0
HasReplyFormFault rules begun beat Changed = Continues SameReplyFields begun beat → ⊥
HasReplyFormFault rules begun beat Opcode = (op : ReplyOp) → reply_opcode_of op ≡ beat.opcode → ⊥
HasReplyFormFault rules begun beat Param = beat.param ≢ 0
HasReplyFormFault rules begun beat Size = MAX_SIZE < beat.size
HasReplyFormFault rules begun beat Unaligned = ⊥
HasReplyFormFault rules begun beat Mask = ⊥
HasReplyFormFault rules begun beat CorruptFlag =
    ((op : ReplyOp) × (reply_opcode_of op ≡ beat.opcode) × (IsRightMark op beat.denied beat.corrupt → ⊥))
    ⊎ (IsMarkedBy rules beat → ⊥)
HasReplyFormFault rules begun beat UnknownData = ⊥

-- ---- the order of faults

-- the place of a fault in the order in which faults are tried. A beat after the first of its message is compared with
-- that one before all else, and a first beat has none to be compared with.
abbrev pub form_rank : FormFault → ℕ
form_rank Changed = 1
form_rank Opcode = 2
form_rank Param = 3
form_rank Size = 4
form_rank Unaligned = 5
form_rank Mask = 6
form_rank CorruptFlag = 7
form_rank UnknownData = 8

-- the fault is the first one, in that order, that the beat has
abbrev pub IsFirstAskFormFault : ℕ → LinkRules → Option AskHead → AskHead → ℕ → FormFault → Type 0
IsFirstAskFormFault bus rules begun beat known = IsFirstOf (HasAskFormFault bus rules begun beat known) form_rank

-- the fault is the first one, in that order, that the beat has as one of a reply.
abbrev pub IsFirstReplyFormFault : LinkRules → Option ReplyHead → ReplyHead → FormFault → Type 0
IsFirstReplyFormFault rules begun beat = IsFirstOf (HasReplyFormFault rules begun beat) form_rank
