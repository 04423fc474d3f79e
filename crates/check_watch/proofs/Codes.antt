-- Numbers stand for one operation, and for one opcode of replies.
use Rattle.std.proofs.Common.{◌≡◌, ◌∙◌, ℕ, ap, sym, refl}
use Rattle.tl_types.specs.Wire.{opcode_of, param_of, IsCodeOf, reply_opcode_of}
use Rattle.tl_types.specs.declared.operation.Arith.TheVariants.{Min, Max, MinU, MaxU, Add}
use Rattle.tl_types.specs.declared.operation.Logic.TheVariants.{Xor, Or, And, Swap}
use Rattle.tl_types.specs.declared.operation.Hint.TheVariants.{PrefetchRead, PrefetchWrite}
use Rattle.tl_types.specs.declared.operation.AskOp.{AskOp}
use Rattle.tl_types.specs.declared.operation.AskOp.TheVariants.{PutFull, PutPartial, Arithmetic, Logical, Get, Intent}
use Rattle.tl_types.specs.declared.operation.ReplyOp.{ReplyOp}
use Rattle.tl_types.specs.declared.operation.ReplyOp.TheVariants.{AccessAck, AccessAckData, HintAck}
use Rattle.check_beats.specs.Message.{op_of, reply_op_of_number}

op_of-code : (op : AskOp) → op_of (opcode_of op) (param_of op) ≡ op
op_of-code PutFull = refl
op_of-code PutPartial = refl
op_of-code (Arithmetic Min) = refl
op_of-code (Arithmetic Max) = refl
op_of-code (Arithmetic MinU) = refl
op_of-code (Arithmetic MaxU) = refl
op_of-code (Arithmetic Add) = refl
op_of-code (Logical Xor) = refl
op_of-code (Logical Or) = refl
op_of-code (Logical And) = refl
op_of-code (Logical Swap) = refl
op_of-code Get = refl
op_of-code (Intent PrefetchRead) = refl
op_of-code (Intent PrefetchWrite) = refl

pub same_op : (op other : AskOp) (opcode param : ℕ) → IsCodeOf op opcode param → IsCodeOf other opcode param
    → op ≡ other
same_op op other opcode param code code' =
    let numbers : op_of (opcode_of op) (param_of op) ≡ op_of (opcode_of other) (param_of other) =
    rw (code.opcode_is, code.param_is, code'.opcode_is, code'.param_is) refl in
    sym (op_of-code op) ∙ numbers ∙ op_of-code other

reply_op-code : (op : ReplyOp) → reply_op_of_number (reply_opcode_of op) ≡ op
reply_op-code AccessAck = refl
reply_op-code AccessAckData = refl
reply_op-code HintAck = refl

pub same_reply_op : (op other : ReplyOp) (opcode : ℕ) → reply_opcode_of op ≡ opcode → reply_opcode_of other ≡ opcode
    → op ≡ other
same_reply_op op other opcode code code' =
    sym (reply_op-code op) ∙ ap reply_op_of_number (code ∙ sym code') ∙ reply_op-code other
