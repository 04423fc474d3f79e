-- Messages beat by beat: what each beat says of the message that it is part of. Each beat of a message has all of the
-- message's fields, so how many beats there are, and what they spell, is said by any of them.
use Rattle.std.specs.Prelude.{ℕ, ◌+◌, ◌%◌, if◌then◌else◌, ◌==◌, nat_lt, min, not, Bool, true, false, ◌&&◌, List, length, map, replicate, Option, Some, None, slice_index}
use Rattle.std.specs.Int.{bit_at}
use Rattle.std.specs.List.{range_with_len}
use Rattle.tl_types.specs.Operation.{byte_count, reply_byte_count}
use Rattle.tl_types.specs.declared.operation.Arith.{Arith}
use Rattle.tl_types.specs.declared.operation.Arith.TheVariants.{Min, Max, MinU, MaxU, Add}
use Rattle.tl_types.specs.declared.operation.Logic.{Logic}
use Rattle.tl_types.specs.declared.operation.Logic.TheVariants.{Xor, Or, And, Swap}
use Rattle.tl_types.specs.declared.operation.Hint.TheVariants.{PrefetchRead, PrefetchWrite}
use Rattle.tl_types.specs.declared.operation.AskOp.{AskOp}
use Rattle.tl_types.specs.declared.operation.AskOp.TheVariants.{PutFull, PutPartial, Arithmetic, Logical, Get, Intent}
use Rattle.tl_types.specs.declared.operation.ReplyOp.{ReplyOp}
use Rattle.tl_types.specs.declared.operation.ReplyOp.TheVariants.{AccessAck, AccessAckData, HintAck}
use Rattle.check_cells.specs.Pattern.{captured_bytes}
use Rattle.check_beats.specs.Bus.{low, beat_count_on_bus}
use Rattle.check_beats.specs.declared.beat.AskHead.{AskHead}
use Rattle.check_beats.specs.declared.beat.ReplyHead.{ReplyHead}

-- how many beats the request has: opcodes 0 to 3 carry bytes
abbrev pub ask_beats : ℕ → AskHead → ℕ
ask_beats bus beat = beat_count_on_bus bus (nat_lt beat.opcode 4) beat.size

-- how many beats the reply has: AccessAckData, 1, carries bytes
abbrev pub reply_beats : ℕ → ReplyHead → ℕ
reply_beats bus beat = beat_count_on_bus bus (beat.opcode == 1) beat.size

-- the arithmetic operation that a parameter stands for; a parameter from 4 on gives Add.
abbrev pub arith_of : ℕ → Arith
arith_of param =
    if param == 0 then Min else if param == 1 then Max else if param == 2 then MinU else if param == 3 then MaxU else Add

-- the logical operation that a parameter stands for; a parameter from 3 on gives Swap.
abbrev pub logic_of : ℕ → Logic
logic_of param = if param == 0 then Xor else if param == 1 then Or else if param == 2 then And else Swap

-- the operation that an opcode and a parameter stand for, if they stand for one
abbrev pub op_of : ℕ → ℕ → AskOp
op_of opcode param =
    if opcode == 0 then PutFull
    else if opcode == 1 then PutPartial
    else if opcode == 2 then Arithmetic (arith_of param)
    else if opcode == 3 then Logical (logic_of param)
    else if opcode == 4 then Get
    else Intent (if param == 0 then PrefetchRead else PrefetchWrite)

-- the opcode that a number on channel D stands for, if it stands for one
abbrev pub reply_op_of_number : ℕ → ReplyOp
reply_op_of_number opcode = if opcode == 0 then AccessAck else if opcode == 1 then AccessAckData else HintAck

-- the byte at a lane, if its bit is set: that of the mask in a request, that of the known lanes in a reply
abbrev pub byte_at : ℕ → List ℕ → ℕ → Option ℕ
byte_at mask lanes lane = if bit_at mask lane == 1 then Some (slice_index lanes lane) else None

-- what stands at so many lanes from one on
abbrev pub given_at : ℕ → List ℕ → ℕ → ℕ → List (Option ℕ)
given_at mask lanes first count = map (λ k. byte_at mask lanes (first + k)) (range_with_len 0 count)

-- the lanes of a beat of a request as they are looked at: if the beat is marked corrupt, all are zero
abbrev pub shown_lanes : ℕ → AskHead → List ℕ → List ℕ
shown_lanes bus beat lanes = if beat.corrupt then replicate bus 0 else lanes

-- how many bytes of a request a beat carries
abbrev pub ask_part_count : ℕ → AskHead → ℕ
ask_part_count bus beat = min bus (byte_count (op_of beat.opcode beat.param) beat.size)

-- the bytes of a request that a beat carries: those at its active lanes
abbrev pub ask_part : ℕ → AskHead → List ℕ → List (Option ℕ)
ask_part bus beat lanes =
    given_at beat.mask (shown_lanes bus beat lanes) (low beat.address beat.size % bus) (ask_part_count bus beat)

-- for each of them whether it is spoiled
abbrev pub spoiled_ask_part : ℕ → AskHead → List Bool
spoiled_ask_part bus beat = replicate (ask_part_count bus beat) beat.corrupt

-- the bytes that a beat of a reply carries promise nothing: it is marked corrupt. Each beat of a denied reply is, and its bytes
-- are not looked at anyway
abbrev pub is_spoiled : ReplyHead → Bool
is_spoiled beat = beat.corrupt && not beat.denied

-- what is seen of bytes by the flags of their beat, denied and corrupt: those of a denied reply are not looked at, and are
-- zeros; of a corrupt beat nothing is seen
abbrev pub seen_by : Bool → Bool → List (Option ℕ) → List (Option ℕ)
seen_by true corrupt bytes = captured_bytes true bytes
seen_by false true bytes = replicate (length bytes) None
seen_by false false bytes = bytes

-- what is seen of the bytes at so many lanes from one on, by the bits of `known`
abbrev pub seen_cells : ReplyHead → ℕ → List ℕ → ℕ → ℕ → List (Option ℕ)
seen_cells beat known lanes first count = seen_by beat.denied beat.corrupt (given_at known lanes first count)

-- how many bytes of a reply a beat carries
abbrev pub reply_part_count : ℕ → ReplyHead → ℕ
reply_part_count bus beat = min bus (reply_byte_count (reply_op_of_number beat.opcode) beat.size)

-- the bytes of a reply to a request at the address that a beat carries
abbrev pub reply_part : ℕ → ℕ → ReplyHead → ℕ → List ℕ → List (Option ℕ)
reply_part bus address beat known lanes =
    seen_cells beat known lanes (low address beat.size % bus) (reply_part_count bus beat)

-- for each of them whether it is spoiled
abbrev pub spoiled_part : ℕ → ReplyHead → List Bool
spoiled_part bus beat = replicate (reply_part_count bus beat) (is_spoiled beat)
