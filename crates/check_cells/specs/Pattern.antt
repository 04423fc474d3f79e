-- Replies of which some parts may be unknown, and which captured ones fit those that are expected. Which opcodes carry
-- bytes is the TileLink specification's; what may be unknown is this project's own.
use Rattle.std.specs.Prelude.{◌≡◌, ℕ, Bool, true, false, if◌then◌else◌, List, [], length, replicate, Option, None, Some}
use Rattle.tl_types.specs.declared.operation.ReplyOp.{ReplyOp}
use Rattle.tl_types.specs.Operation.{reply_op_of, reply_carries_bytes, reply_byte_count}
use Rattle.tl_types.specs.Request.{Request}
use Rattle.tl_types.specs.Response.{Response}
use Rattle.check_cells.specs.Known.{IsBelow, IsBelowBut, known}

-- a reply of which the denied flag and some bytes may be unknown: the one that is expected, or the one that was
-- captured. A byte of a captured one is spoiled if the beat that carried it was marked corrupt, and then it is unknown; none is
-- of one that is expected
pub record Pattern : Type 0 where
  pub op : ReplyOp
  pub size : ℕ
  pub source : ℕ
  pub denied : Option Bool
  pub bytes : List (Option ℕ)
  pub spoiled : List Bool

-- ---- which replies fit

-- the bytes of a reply are looked at, unless it is denied and need not be
abbrev pub AreLookedAt : Pattern → Pattern → Type 0
AreLookedAt expected reply = reply.denied ≡ Some true → expected.denied ≡ Some true

-- a reply says no less than what is expected: its opcode, size and source are those, and all else that is expected is known
-- and is the same
pub record FitsPattern (expected reply : Pattern) : Type 0 where
  pub op_is : reply.op ≡ expected.op
  pub size_is : reply.size ≡ expected.size
  pub source_is : reply.source ≡ expected.source
  pub denied_is : (flag : Bool) → expected.denied ≡ Some flag → reply.denied ≡ Some flag
  pub counted : length reply.bytes ≡ length expected.bytes
  pub bytes_fit : AreLookedAt expected reply → IsBelow expected.bytes reply.bytes

-- a captured reply fits what is expected: the same, but for its spoiled bytes, which promise nothing
pub record FitsCaptured (expected captured : Pattern) : Type 0 where
  pub op_is : captured.op ≡ expected.op
  pub size_is : captured.size ≡ expected.size
  pub source_is : captured.source ≡ expected.source
  pub denied_is : (flag : Bool) → expected.denied ≡ Some flag → captured.denied ≡ Some flag
  pub counted : length captured.bytes ≡ length expected.bytes
  pub bytes_fit : AreLookedAt expected captured → IsBelowBut captured.spoiled expected.bytes captured.bytes

-- ---- what is expected

-- the cells that a reply of this opcode shows
abbrev pub shown_cells : ReplyOp → List (Option ℕ) → List (Option ℕ)
shown_cells op cells = if reply_carries_bytes op then cells else []

-- the answer of a device: of the right form, and nothing else is known of it
abbrev pub device_pattern : Request → Pattern
device_pattern ask = record {
  op = reply_op_of ask.op;
  size = ask.size;
  source = ask.source;
  denied = None;
  bytes = replicate (reply_byte_count (reply_op_of ask.op) ask.size) None;
  spoiled = [];
}

-- a flag that may be either where it would be false
abbrev pub unsure_flag : Option Bool → Option Bool
unsure_flag None = None
unsure_flag (Some true) = Some true
unsure_flag (Some false) = None

-- the same answer, which may be denied too
abbrev pub unsure : Pattern → Pattern
unsure expected = record expected { denied = unsure_flag expected.denied }

-- ---- what was captured

-- the bytes of a captured reply; those of one that is denied are not looked at, and are zeros
abbrev pub captured_bytes : Bool → List (Option ℕ) → List (Option ℕ)
captured_bytes denied bytes = if denied then known (replicate (length bytes) 0) else bytes

-- a captured reply of these parts, with no spoiled byte
abbrev pub captured_as : ReplyOp → ℕ → ℕ → Bool → List (Option ℕ) → Pattern
captured_as op size source denied bytes = record {
  op = op;
  size = size;
  source = source;
  denied = Some denied;
  bytes = captured_bytes denied bytes;
  spoiled = replicate (length bytes) false;
}

-- a reply that is wholly known
abbrev pub seen_as : Response → Pattern
seen_as response = record {
  op = response.op;
  size = response.size;
  source = response.source;
  denied = Some response.denied;
  bytes = known response.bytes;
  spoiled = replicate (length response.bytes) false;
}
