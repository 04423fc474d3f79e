-- The digits so far, and their value while it is below 2^64.
use Rattle.std.proofs.Common.{◌≡◌, take}
use Rattle.std.specs.Str.Parse.{AllDigits, digits_value}
use Rattle.tl_text.specs.Number.{below_64_bits}
use Rattle.tl_text.proofs.number.read_digits.Given as goal

abbrev pub invariant-loop-byte : goal.invariant-loop-byte
invariant-loop-byte l = record {
  digits : AllDigits l.radix (take l.byte-index l.word);
  value : l.value ≡ below_64_bits (digits_value l.radix (take l.byte-index l.word));
}
