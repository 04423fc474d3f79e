-- What each operation carries and how it is answered: the chapter "TL-UL and TL-UH operations" of the TileLink
-- specification.
use Rattle.std.specs.Prelude.{ℕ, ◌^◌, Bool, true, false, if◌then◌else◌}
use Rattle.tl_types.specs.declared.operation.AskOp.{AskOp}
use Rattle.tl_types.specs.declared.operation.AskOp.TheVariants.{PutFull, PutPartial, Arithmetic, Logical, Get, Intent}
use Rattle.tl_types.specs.declared.operation.ReplyOp.{ReplyOp}
use Rattle.tl_types.specs.declared.operation.ReplyOp.TheVariants.{AccessAck, AccessAckData, HintAck}

-- whether a request of this operation carries bytes
abbrev pub carries_bytes : AskOp → Bool
carries_bytes PutFull = true
carries_bytes PutPartial = true
carries_bytes (Arithmetic _) = true
carries_bytes (Logical _) = true
carries_bytes Get = false
carries_bytes (Intent _) = false

-- how many bytes a request of this operation and size carries
abbrev pub byte_count : AskOp → ℕ → ℕ
byte_count op size = if carries_bytes op then 2 ^ size else 0

-- whether a request of this operation may leave some of its bytes unset
abbrev pub may_leave_unset : AskOp → Bool
may_leave_unset PutFull = false
may_leave_unset PutPartial = true
may_leave_unset (Arithmetic _) = false
may_leave_unset (Logical _) = false
may_leave_unset Get = false
may_leave_unset (Intent _) = false

-- the opcode of the reply to a request of this operation
abbrev pub reply_op_of : AskOp → ReplyOp
reply_op_of PutFull = AccessAck
reply_op_of PutPartial = AccessAck
reply_op_of (Arithmetic _) = AccessAckData
reply_op_of (Logical _) = AccessAckData
reply_op_of Get = AccessAckData
reply_op_of (Intent _) = HintAck

-- whether a reply of this opcode carries bytes
abbrev pub reply_carries_bytes : ReplyOp → Bool
reply_carries_bytes AccessAck = false
reply_carries_bytes AccessAckData = true
reply_carries_bytes HintAck = false

-- how many bytes a reply of this opcode and size carries
abbrev pub reply_byte_count : ReplyOp → ℕ → ℕ
reply_byte_count op size = if reply_carries_bytes op then 2 ^ size else 0
