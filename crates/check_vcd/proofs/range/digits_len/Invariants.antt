-- The digits so far, and those after them, are the digits at the front.
use Rattle.std.proofs.Common.{◌≡◌, ◌≤◌, ◌+◌, ◌-◌, drop, length}
use Rattle.std.specs.Char.{is_ascii_digit}
use Rattle.std.specs.List.{prefix_len}
use Rattle.check_vcd.proofs.range.digits_len.Given as goal

abbrev pub invariant-loop-len : goal.invariant-loop-len
invariant-loop-len l = record {
  inside : l.len ≤ length l.text;
  all : prefix_len is_ascii_digit l.text ≡ l.len + prefix_len is_ascii_digit (drop l.len l.text);
}

abbrev pub decreases-loop-len : goal.decreases-loop-len
decreases-loop-len l = length l.text - l.len
