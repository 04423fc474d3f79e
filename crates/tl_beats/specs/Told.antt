-- The reply that beats tell, part by part, whether they spell it or not: the operation, size, source and denial of the
-- first beat, and the bytes that stand at their lanes, which are zero if it is denied. What is read where is the
-- chapter "Beats and bursts" of the TileLink specification; that a denied reply's bytes are zero is this project's
-- choice.
use Rattle.std.specs.Prelude.{ℕ, ◌/◌, suc, zero, false, if◌then◌else◌, List, [], map, slice_index, slice_index_or}
use Rattle.std.specs.List.{range_with_len}
use Rattle.tl_types.specs.declared.operation.ReplyOp.{ReplyOp}
use Rattle.tl_types.specs.declared.operation.ReplyOp.TheVariants.{AccessAck, AccessAckData, HintAck}
use Rattle.tl_types.specs.declared.limits.TheConstants.{BUS_BYTES}
use Rattle.tl_types.specs.Operation.{reply_byte_count}
use Rattle.tl_types.specs.Response.{Response}
use Rattle.tl_beats.specs.Beats.{lane_of}
use Rattle.tl_beats.specs.declared.beat.DBeat.{DBeat}

-- the operation that a number on channel D stands for
abbrev pub reply_op_at : ℕ → ReplyOp
reply_op_at zero = AccessAck
reply_op_at (suc zero) = AccessAckData
reply_op_at (suc (suc n)) = HintAck

-- a beat of channel D for places behind the last beat: it has no lanes.
abbrev pub no_beat : DBeat
no_beat = record { opcode = 0; size = 0; source = 0; denied = false; corrupt = false; lanes = [] }

-- byte j of a reply to a request at the address, whose first beat this is
abbrev pub told_byte : List DBeat → ℕ → DBeat → ℕ → ℕ
told_byte beats address first j =
    if first.denied then 0 else slice_index (slice_index_or beats (j / BUS_BYTES) no_beat).lanes
    (lane_of address first.size j)

-- the reply that these beats of channel D tell, the first beat in front, to a request at this address. If they spell a
-- lawful reply, it is that one.
abbrev pub told_reply : List DBeat → ℕ → Response
told_reply beats address =
    let first = slice_index_or beats 0 no_beat in record {
      op = reply_op_at first.opcode;
      size = first.size;
      source = first.source;
      denied = first.denied;
      bytes = map (told_byte beats address first)
          (range_with_len 0 (reply_byte_count (reply_op_at first.opcode) first.size));
    }
