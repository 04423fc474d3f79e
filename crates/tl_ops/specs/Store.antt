-- A slave's memory, one request at a time: what is legal there, what a request leaves, and what it is answered. This is
-- the chapter "TL-UL and TL-UH operations" of the TileLink specification, but for what is denied and that the bytes of
-- a denied reply are zero, which are this project's choices.
use Rattle.std.specs.Prelude.{ℕ, ◌+◌, ◌-◌, ◌%◌, ◌^◌, Bool, true, false, ◌&&◌, if◌then◌else◌, ◌==◌, nat_le, List, [], ◌++◌, take, drop, length, replicate}
use Rattle.tl_types.specs.declared.operation.ReplyOp.{ReplyOp}
use Rattle.tl_types.specs.Operation.{reply_op_of, reply_carries_bytes}
use Rattle.tl_types.specs.Request.{Request}
use Rattle.tl_types.specs.Response.{Response}
use Rattle.tl_ops.specs.Support.{supports}
use Rattle.tl_ops.specs.Window.{new_window}
use Rattle.tl_ops.specs.declared.kind.Kind.{Kind}

-- a slave's memory: its kind, the address of its first byte, and its bytes
pub record Store : Type 0 where
  pub kind : Kind
  pub base : ℕ
  pub bytes : List ℕ

-- ---- what is legal

-- whether the bytes of a request, its window, lie in the store
abbrev pub contains_window : Store → Request → Bool
contains_window store ask =
    nat_le store.base ask.address
    && nat_le (ask.address + 2 ^ ask.size) (store.base + length store.bytes)

-- whether a request is legal at a store: supported there, aligned as the standard has it, and inside
abbrev pub legal : Store → Request → Bool
legal store ask =
    supports store.kind ask.op ask.size
    && (ask.address % 2 ^ ask.size == 0)
    && contains_window store ask

-- ---- what a request leaves and what it is answered

-- the bytes of a request's window, where they lie in the store
abbrev pub window : Store → Request → List ℕ
window store ask = take (2 ^ ask.size) (drop (ask.address - store.base) store.bytes)

-- bytes with those from a place on replaced: a law (`window_by_places`) says what that leaves at each place
abbrev pub with_window : List ℕ → ℕ → List ℕ → List ℕ
with_window bytes start new = take start bytes ++ new ++ drop (start + length new) bytes

-- the store after a request
abbrev pub after : Store → Request → Store
after store ask =
    if legal store ask then
    record store {
      bytes = with_window store.bytes (ask.address - store.base)
          (new_window store.kind ask.op (window store ask) ask.bytes);
    }
    else store

-- the bytes of a reply of this opcode that shows these bytes
abbrev pub shown : ReplyOp → List ℕ → List ℕ
shown op bytes = if reply_carries_bytes op then bytes else []

-- the reply to a request: the window before it, or as many zero bytes if it is denied
abbrev pub reply : Store → Request → Response
reply store ask = record {
  op = reply_op_of ask.op;
  size = ask.size;
  source = ask.source;
  denied = if legal store ask then false else true;
  bytes = shown (reply_op_of ask.op) (if legal store ask then window store ask else replicate (2 ^ ask.size) 0);
}
