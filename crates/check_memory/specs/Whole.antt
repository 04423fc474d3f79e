-- A memory all of whose bytes are known, by the definitions of tl_ops: the true memory, of which a partial one may
-- know less.
use Rattle.std.specs.Prelude.{ℕ, ◌^◌, true, false, if◌then◌else◌, List, take, drop, replicate}
use Rattle.tl_types.specs.Operation.{reply_op_of}
use Rattle.tl_types.specs.Request.{Request}
use Rattle.tl_types.specs.Response.{Response}
use Rattle.tl_ops.specs.Store.{with_window, shown}
use Rattle.tl_ops.specs.Window.{new_window}
use Rattle.check_memory.specs.Known.{known}
use Rattle.check_memory.specs.Partial.{Partial, start_of, placed, permits}

-- the same memory with all these bytes known
abbrev pub whole : Partial → List ℕ → Partial
whole memory bytes = record memory { cells = known bytes }

-- the bytes of a request's window, from its address on
abbrev pub true_window : List ℕ → Request → List ℕ
true_window bytes ask = take (2 ^ ask.size) (drop ask.address bytes)

-- the bytes after a request, where a memory has these
abbrev pub true_after : Partial → List ℕ → Request → List ℕ
true_after memory bytes ask =
    if permits memory ask then with_window bytes (start_of memory ask)
    (new_window memory.kind ask.op (true_window bytes (placed memory ask)) ask.bytes)
    else bytes

-- the reply to a request, where a memory has these bytes
abbrev pub true_reply : Partial → List ℕ → Request → Response
true_reply memory bytes ask = record {
  op = reply_op_of ask.op;
  size = ask.size;
  source = ask.source;
  denied = if permits memory ask then false else true;
  bytes = shown (reply_op_of ask.op) (if permits memory ask then true_window bytes (placed memory ask) else replicate (2 ^ ask.size) 0);
}
