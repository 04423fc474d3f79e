-- The request that beats tell, part by part, whether they spell it or not: the operation, size, source and address of
-- the first beat, and the bytes that stand at their lanes where the masks set them. What is read where is the chapter
-- "Beats and bursts" of the TileLink specification.
use Rattle.std.specs.Prelude.{ℕ, ◌/◌, suc, zero, List, [], Option, Some, None, map, slice_index, slice_index_or}
use Rattle.std.specs.List.{range_with_len}
use Rattle.std.specs.Int.{bit_at}
use Rattle.tl_types.specs.declared.operation.Arith.{Arith}
use Rattle.tl_types.specs.declared.operation.Arith.TheVariants.{Min, Max, MinU, MaxU, Add}
use Rattle.tl_types.specs.declared.operation.Logic.{Logic}
use Rattle.tl_types.specs.declared.operation.Logic.TheVariants.{Xor, Or, And, Swap}
use Rattle.tl_types.specs.declared.operation.Hint.{Hint}
use Rattle.tl_types.specs.declared.operation.Hint.TheVariants.{PrefetchRead, PrefetchWrite}
use Rattle.tl_types.specs.declared.operation.AskOp.{AskOp}
use Rattle.tl_types.specs.declared.operation.AskOp.TheVariants.{PutFull, PutPartial, Arithmetic, Logical, Get, Intent}
use Rattle.tl_types.specs.declared.limits.TheConstants.{BUS_BYTES}
use Rattle.tl_types.specs.Operation.{byte_count}
use Rattle.tl_types.specs.Request.{Request}
use Rattle.tl_beats.specs.Beats.{lane_of}
use Rattle.tl_beats.specs.declared.beat.ABeat.{ABeat}

-- the arithmetic operation that a parameter stands for; a parameter from 4 on gives Add.
abbrev pub arith_at : ℕ → Arith
arith_at zero = Min
arith_at (suc zero) = Max
arith_at (suc (suc zero)) = MinU
arith_at (suc (suc (suc zero))) = MaxU
arith_at (suc (suc (suc (suc n)))) = Add

-- the logical operation that a parameter stands for; a parameter from 3 on gives Swap.
abbrev pub logic_at : ℕ → Logic
logic_at zero = Xor
logic_at (suc zero) = Or
logic_at (suc (suc zero)) = And
logic_at (suc (suc (suc n))) = Swap

-- the prefetch that a parameter stands for; a parameter from 1 on gives PrefetchWrite.
abbrev pub hint_at : ℕ → Hint
hint_at zero = PrefetchRead
hint_at (suc n) = PrefetchWrite

-- the operation that an opcode and a parameter on channel A stand for; an opcode from 5 on gives Intent.
abbrev pub op_at : ℕ → ℕ → AskOp
op_at zero param = PutFull
op_at (suc zero) param = PutPartial
op_at (suc (suc zero)) param = Arithmetic (arith_at param)
op_at (suc (suc (suc zero))) param = Logical (logic_at param)
op_at (suc (suc (suc (suc zero)))) param = Get
op_at (suc (suc (suc (suc (suc n))))) param = Intent (hint_at param)

-- a beat of channel A for places behind the last beat: it gives no byte.
abbrev pub no_ask_beat : ABeat
no_ask_beat = record { opcode = 0; param = 0; size = 0; source = 0; address = 0; mask = 0; lanes = [] }

-- what a lane has, by its bit of the mask
abbrev pub lane_given : ℕ → ℕ → Option ℕ
lane_given zero byte = None
lane_given (suc n) byte = Some byte

-- byte j of a request whose first beat this is
abbrev pub told_given : List ABeat → ABeat → ℕ → Option ℕ
told_given beats first j =
    let beat = slice_index_or beats (j / BUS_BYTES) no_ask_beat in
    let lane = lane_of first.address first.size j in lane_given (bit_at beat.mask lane) (slice_index beat.lanes lane)

-- the request that these beats of channel A tell, the first beat in front. If they spell a lawful request, it is that
-- one.
abbrev pub told_ask : List ABeat → Request
told_ask beats =
    let first = slice_index_or beats 0 no_ask_beat in record {
      op = op_at first.opcode first.param;
      size = first.size;
      source = first.source;
      address = first.address;
      bytes = map (told_given beats first) (range_with_len 0 (byte_count (op_at first.opcode first.param) first.size));
    }
