-- The answer that is expected of a port, of which some parts may be unknown. What is answered is the chapter "TL-UL and
-- TL-UH operations" of the TileLink specification; what may be unknown is this project's own.
use Rattle.std.specs.Prelude.{◌≡◌, ◌^◌, true, false, if◌then◌else◌, [], length, replicate, Some}
use Rattle.tl_types.specs.Operation.{reply_op_of, reply_byte_count}
use Rattle.tl_types.specs.Request.{Request}
use Rattle.check_memory.specs.Known.{known}
use Rattle.check_memory.specs.Partial.{Partial, permits, window_of}
pub use Rattle.check_cells.specs.Pattern.{Pattern, FitsPattern, FitsCaptured, shown_cells, device_pattern, captured_bytes, captured_as, seen_as}

-- a device's reply fits whatever its denied flag and its bytes are, unknown ones too
pub record FitsDevice (ask : Request) (captured : Pattern) : Type 0 where
  pub op_is : captured.op ≡ reply_op_of ask.op
  pub size_is : captured.size ≡ ask.size
  pub source_is : captured.source ≡ ask.source
  pub counted : length captured.bytes ≡ reply_byte_count (reply_op_of ask.op) ask.size

-- the answer of a memory: the window before the request, or as many zero bytes if it is denied
abbrev pub pattern : Partial → Request → Pattern
pattern memory ask = record {
  op = reply_op_of ask.op;
  size = ask.size;
  source = ask.source;
  denied = Some (if permits memory ask then false else true);
  bytes = shown_cells (reply_op_of ask.op)
      (if permits memory ask then window_of memory ask else known (replicate (2 ^ ask.size) 0));
  spoiled = [];
}
