-- The digits so far, with those of what is left before them, are those of the number; and what is left has room.
use Rattle.std.proofs.Common.{◌≡◌, ◌+◌, ◌^◌, ◌<◌, drop, false, length}
use Rattle.std.specs.Fmt.{digits, digits_onto}
use Rattle.tl_text.proofs.digits.push_hex.Given as goal

abbrev pub invariant-loop-left : goal.invariant-loop-left
invariant-loop-left l = record {
  first : l.first < 16;
  long : length l.digits ≡ 16;
  fits : l.left < 16 ^ (l.first + 1);
  digits : digits_onto (l.first + 49) 16 false l.left (drop (l.first + 1) l.digits) ≡ digits 16 false l.number;
}

abbrev pub decreases-loop-left : goal.decreases-loop-left
decreases-loop-left l = l.left
