-- Numbers stand for one operation, and for one opcode of replies.
use Rattle.std.proofs.Common.{◌≡◌, ◌∙◌, ℕ, ap, sym, refl}
use Rattle.tl_types.specs.Wire.{opcode_of, param_of, IsCodeOf, reply_opcode_of}
use Rattle.tl_types.specs.declared.operation.Arith.TheVariants.{Min, Max, MinU, MaxU, Add}
use Rattle.tl_types.specs.declared.operation.Logic.TheVariants.{Xor, Or, And, Swap}
use Rattle.tl_types.specs.declared.operation.Hint.TheVariants.{PrefetchRead, PrefetchWrite}
use Rattle.tl_types.specs.declared.operation.AskOp.{AskOp}
use Rattle.tl_types.specs.declared.operation.AskOp.TheVariants.{PutFull, PutPartial, Arithmetic, Logical, Get, Intent}
use Rattle.tl_types.specs.declared.operation.ReplyOp.{ReplyOp}
use Rattle.tl_beats.specs.Told.{reply_op_at}
use Rattle.tl_beats.specs.ToldAsk.{op_at}
use Rattle.tl_types.specs.declared.operation.ReplyOp.TheVariants.{AccessAck, AccessAckData, HintAck}

pub op_at-code : (op : AskOp) → op_at (opcode_of op) (param_of op) ≡ op
op_at-code PutFull = refl
op_at-code PutPartial = refl
op_at-code (Arithmetic Min) = refl
op_at-code (Arithmetic Max) = refl
op_at-code (Arithmetic MinU) = refl
op_at-code (Arithmetic MaxU) = refl
op_at-code (Arithmetic Add) = refl
op_at-code (Logical Xor) = refl
op_at-code (Logical Or) = refl
op_at-code (Logical And) = refl
op_at-code (Logical Swap) = refl
op_at-code Get = refl
op_at-code (Intent PrefetchRead) = refl
op_at-code (Intent PrefetchWrite) = refl

pub same_op : (op other : AskOp) (opcode param : ℕ) → IsCodeOf op opcode param → IsCodeOf other opcode param
    → op ≡ other
same_op op other opcode param code code' =
    let numbers : op_at (opcode_of op) (param_of op) ≡ op_at (opcode_of other) (param_of other) =
    rw (code.opcode_is, code.param_is, code'.opcode_is, code'.param_is) refl in
    sym (op_at-code op) ∙ numbers ∙ op_at-code other

pub reply_op_at-code : (op : ReplyOp) → reply_op_at (reply_opcode_of op) ≡ op
reply_op_at-code AccessAck = refl
reply_op_at-code AccessAckData = refl
reply_op_at-code HintAck = refl

pub same_reply_op : (op other : ReplyOp) (opcode : ℕ) → reply_opcode_of op ≡ opcode → reply_opcode_of other ≡ opcode
    → op ≡ other
same_reply_op op other opcode code code' =
    sym (reply_op_at-code op) ∙ ap reply_op_at (code ∙ sym code') ∙ reply_op_at-code other
