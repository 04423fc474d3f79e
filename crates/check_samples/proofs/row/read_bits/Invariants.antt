-- Whether the bits so far are known; if they are, this is their number.
use Rattle.std.proofs.Common.{◌≡◌, ◌^◌, ◌<◌, true, take}
use Rattle.std.specs.Char.{is_digit}
use Rattle.std.specs.List.{list_all}
use Rattle.std.specs.Str.Parse.{digits_value}
use Rattle.check_samples.proofs.row.read_bits.Given as goal

abbrev pub invariant-loop-bit : goal.invariant-loop-bit
invariant-loop-bit l = record {
  known : l.known ≡ list_all (λ c. is_digit c 2) (take l.bit-index l.bits);
  value : l.known ≡ true → l.value ≡ digits_value 2 (take l.bit-index l.bits);
  small : l.value < 2 ^ l.bit-index;
}
