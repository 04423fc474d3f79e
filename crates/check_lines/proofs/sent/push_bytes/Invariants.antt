-- The bytes so far, the room that there was, and that it is enough for those that are left.
use Rattle.std.proofs.Common.{◌≡◌, ◌+◌, ◌*◌, ◌-◌, ◌≤◌, ◌++◌, length, vec_capacity, vec_len}
use Rattle.std.specs.List.{flat_map, range_with_len}
use Rattle.check_lines.specs.Sent.{sent_byte_text}
use Rattle.check_lines.proofs.sent.push_bytes.Given as goal

abbrev pub invariant-loop-place : goal.invariant-loop-place
invariant-loop-place l = record {
  items : l.text.items ≡ l.initial.text.items ++ flat_map (sent_byte_text l.sent) (range_with_len 0 l.place);
  room : vec_capacity l.text ≡ vec_capacity l.initial.text;
  enough : vec_len l.text + 2 * (length l.sent.ask.bytes - l.place) ≤ vec_capacity l.text;
}
