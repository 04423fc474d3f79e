-- The digits so far, and their value.
use Rattle.std.proofs.Common.{◌≡◌, ◌^◌, ◌<◌, true, take}
use Rattle.std.specs.Char.{is_digit}
use Rattle.std.specs.List.{list_all}
use Rattle.std.specs.Str.Parse.{digits_value}
use Rattle.check_rows.proofs.digit.read_hex.Given as goal

abbrev pub invariant-loop-digit : goal.invariant-loop-digit
invariant-loop-digit l = record {
  digits : list_all (λ c. is_digit c 16) (take l.digit-index l.word) ≡ true;
  value : l.value ≡ digits_value 16 (take l.digit-index l.word);
  small : l.value < 16 ^ l.digit-index;
}
