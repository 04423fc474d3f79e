-- The numbers of operations and replies on the wires: the chapter "TL-UL and TL-UH operations" of the TileLink
-- specification, but for the parameters of Intent, which are this project's.
use Rattle.std.specs.Prelude.{◌≡◌, ℕ, ◌≤◌, ◌⊎◌}
use Rattle.tl_types.specs.Fault.{IsFirstOf}
use Rattle.tl_types.specs.declared.operation.Arith.{Arith}
use Rattle.tl_types.specs.declared.operation.Arith.TheVariants.{Min, Max, MinU, MaxU, Add}
use Rattle.tl_types.specs.declared.operation.Logic.{Logic}
use Rattle.tl_types.specs.declared.operation.Logic.TheVariants.{Xor, Or, And, Swap}
use Rattle.tl_types.specs.declared.operation.Hint.{Hint}
use Rattle.tl_types.specs.declared.operation.Hint.TheVariants.{PrefetchRead, PrefetchWrite}
use Rattle.tl_types.specs.declared.operation.AskOp.{AskOp}
use Rattle.tl_types.specs.declared.operation.AskOp.TheVariants.{PutFull, PutPartial, Arithmetic, Logical, Get, Intent}
use Rattle.tl_types.specs.declared.wire.OpFault.{OpFault}
use Rattle.tl_types.specs.declared.wire.OpFault.TheVariants.{Cached, UnknownOpcode, UnknownParam}
use Rattle.tl_types.specs.declared.operation.ReplyOp.{ReplyOp}
use Rattle.tl_types.specs.declared.operation.ReplyOp.TheVariants.{AccessAck, AccessAckData, HintAck}

-- the opcode of an operation on channel A
abbrev pub opcode_of : AskOp → ℕ
opcode_of PutFull = 0
opcode_of PutPartial = 1
opcode_of (Arithmetic _) = 2
opcode_of (Logical _) = 3
opcode_of Get = 4
opcode_of (Intent _) = 5

-- the parameter on channel A of an arithmetic operation.
abbrev pub arith_param : Arith → ℕ
arith_param Min = 0
arith_param Max = 1
arith_param MinU = 2
arith_param MaxU = 3
arith_param Add = 4

-- the parameter on channel A of a logical operation.
abbrev pub logic_param : Logic → ℕ
logic_param Xor = 0
logic_param Or = 1
logic_param And = 2
logic_param Swap = 3

-- the parameter on channel A of an Intent: this project's own numbers.
abbrev pub hint_param : Hint → ℕ
hint_param PrefetchRead = 0
hint_param PrefetchWrite = 1

-- the parameter of an operation on channel A
abbrev pub param_of : AskOp → ℕ
param_of PutFull = 0
param_of PutPartial = 0
param_of (Arithmetic arith) = arith_param arith
param_of (Logical logic) = logic_param logic
param_of Get = 0
param_of (Intent hint) = hint_param hint

-- the numbers stand for the operation
pub record IsCodeOf (op : AskOp) (opcode param : ℕ) : Type 0 where
  pub opcode_is : opcode_of op ≡ opcode
  pub param_is : param_of op ≡ param

-- the fault is one of these numbers: opcodes 6 and 7 are the cached operations of TL-C, and there are none from 8 on. A
-- parameter is unknown if no operation has the two numbers.
abbrev pub HasOpFault : ℕ → ℕ → OpFault → Type 0
HasOpFault opcode param Cached = (opcode ≡ 6) ⊎ (opcode ≡ 7)
HasOpFault opcode param UnknownOpcode = 8 ≤ opcode
HasOpFault opcode param UnknownParam = (op : AskOp) → IsCodeOf op opcode param → ⊥

-- the place of a fault in the order in which faults are tried
abbrev pub op_fault_rank : OpFault → ℕ
op_fault_rank Cached = 1
op_fault_rank UnknownOpcode = 2
op_fault_rank UnknownParam = 3

-- the fault is the first one, in that order, of these numbers
abbrev pub IsFirstOpFault : ℕ → ℕ → OpFault → Type 0
IsFirstOpFault opcode param = IsFirstOf (HasOpFault opcode param) op_fault_rank

-- the opcode of a reply on channel D
abbrev pub reply_opcode_of : ReplyOp → ℕ
reply_opcode_of AccessAck = 0
reply_opcode_of AccessAckData = 1
reply_opcode_of HintAck = 2

-- the fault is one of this opcode on channel D, which has no parameter and no cached operation here
abbrev pub HasReplyOpFault : ℕ → OpFault → Type 0
HasReplyOpFault opcode Cached = ⊥
HasReplyOpFault opcode UnknownOpcode = (op : ReplyOp) → reply_opcode_of op ≡ opcode → ⊥
HasReplyOpFault opcode UnknownParam = ⊥

-- the fault is the first one of this opcode on channel D
abbrev pub IsFirstReplyOpFault : ℕ → OpFault → Type 0
IsFirstReplyOpFault opcode = IsFirstOf (HasReplyOpFault opcode) op_fault_rank
