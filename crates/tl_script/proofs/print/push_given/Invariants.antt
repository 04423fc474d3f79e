-- The bytes so far, the room that there was, and that it is enough for those that are left.
use Rattle.std.proofs.Common.{◌≡◌, ◌+◌, ◌*◌, ◌-◌, ◌≤◌, ◌++◌, Some, length, map, take, vec_capacity, vec_len}
use Rattle.tl_script.specs.Data.{data_text}
use Rattle.tl_script.proofs.print.push_given.Given as goal

abbrev pub invariant-loop-byte : goal.invariant-loop-byte
invariant-loop-byte l = record {
  items : l.text.items ≡ l.initial.text.items ++ data_text (map (λ byte. Some byte) (take l.byte-index l.bytes));
  room : vec_capacity l.text ≡ vec_capacity l.initial.text;
  enough : vec_len l.text + 2 * (length l.bytes - l.byte-index) ≤ vec_capacity l.text;
}
