-- Numbers, as columns spell them: digits first, their value after them. This project's own.
use Rattle.std.specs.Prelude.{ℕ, ◌/◌, ◌^◌, ◌==◌, List, length, max, nat_le, nat_lt, Result, Ok, Err, if◌then◌else◌, ok_or}
use Rattle.std.specs.Str.Parse.{digits_value}
use Rattle.tl_text.specs.Number.{are_digits, digits_of}
use Rattle.tl_text.specs.Reading.{◌>>=◌}
use Rattle.check_rows.specs.declared.fault.RowFault.{RowFault}
use Rattle.check_rows.specs.declared.fault.RowFault.TheVariants.{Number, Range}

-- the number that decimal digits spell, which is `most` at most; zeros may lead
unfoldable pub decimal_of : ℕ → List ℕ → Result ℕ RowFault
decimal_of most word = do
  spelled ← ok_or (digits_of 10 word) Number
  number ← ok_or spelled Range
  if nat_le number most then Ok number else Err Range

-- the same, or 0 if the column is empty
unfoldable pub decimal_or_zero : ℕ → List ℕ → Result ℕ RowFault
decimal_or_zero most word = if length word == 0 then Ok 0 else decimal_of most word

-- the number that hexadecimal digits spell
unfoldable pub hex_of : List ℕ → Result ℕ RowFault
hex_of word = if are_digits 16 word then Ok (digits_value 16 word) else Err Number

-- the address that one to sixteen hexadecimal digits spell
unfoldable pub address_of : List ℕ → Result ℕ RowFault
address_of word = if nat_le (length word) 16 then hex_of word else Err Number

-- how many digits the mask of a bus has: one for four lanes, and one at least
abbrev pub mask_digits : ℕ → ℕ
mask_digits bus = max 1 (bus / 4)

-- the mask that hexadecimal digits spell, with a bit for each lane of the bus and no other
unfoldable pub mask_of : ℕ → List ℕ → Result ℕ RowFault
mask_of bus word =
    if length word == mask_digits bus
    then hex_of word >>= (λ mask. if nat_lt mask (2 ^ bus) then Ok mask else Err Number) else Err Number
