-- Hexadecimal digits, by a number for each. This project's own.
use Rattle.std.specs.Prelude.{ℕ, if◌then◌else◌}
use Rattle.std.specs.Char.{digit_value, is_digit}
use Rattle.check_rows.specs.Lanes.{is_unknown}
use Rattle.check_rows.specs.declared.digit.TheConstants.{UNKNOWN, NONE}

-- the value of a digit, or what stands for one whose bits are unknown, or for a character that is no digit
unfoldable pub digit_code : ℕ → ℕ
digit_code c = if is_digit c 16 then digit_value c else if is_unknown c then UNKNOWN else NONE
