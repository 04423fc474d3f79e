-- The bytes so far, the room that there was, and that it is enough for those that are left.
use Rattle.std.proofs.Common.{◌≡◌, ◌+◌, ◌*◌, ◌-◌, ◌≤◌, ◌++◌, length, take, vec_capacity, vec_len}
use Rattle.check_lines.specs.Reply.{cells_text}
use Rattle.check_lines.proofs.reply.push_cells.Given as goal

abbrev pub invariant-loop-place : goal.invariant-loop-place
invariant-loop-place l = record {
  items : l.text.items ≡ l.initial.text.items ++ cells_text (take l.place l.cells);
  room : vec_capacity l.text ≡ vec_capacity l.initial.text;
  enough : vec_len l.text + 2 * (length l.cells - l.place) ≤ vec_capacity l.text;
}
