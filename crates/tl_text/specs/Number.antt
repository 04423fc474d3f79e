-- Numbers, as words spell them.
use Rattle.std.specs.Prelude.{ℕ, ◌+◌, ◌*◌, ◌^◌, Bool, ◌&&◌, List, length, nat_lt, nat_le, Option, Some, None, if◌then◌else◌, option_and_then}
use Rattle.std.specs.List.{list_all}
use Rattle.std.specs.Char.{is_digit, digit_value}
use Rattle.std.specs.Str.Parse.{digits_value}

-- digits of this base, one at least
abbrev pub are_digits : ℕ → List ℕ → Bool
are_digits radix word = nat_lt 0 (length word) && list_all (λ c. is_digit c radix) word

-- a number, if it is below 2^64
abbrev pub below_64_bits : ℕ → Option ℕ
below_64_bits n = if nat_lt n (2 ^ 64) then Some n else None

-- what digits of this base spell: a number, if it is below 2^64; zeros may lead
abbrev pub digits_of : ℕ → List ℕ → Option (Option ℕ)
digits_of radix word = if are_digits radix word then Some (below_64_bits (digits_value radix word)) else None

-- the number that one to `most` digits spell, if it is below 2^64
abbrev pub number_of : ℕ → ℕ → List ℕ → Option ℕ
number_of radix most word =
    if nat_le (length word) most then option_and_then (λ number. number) (digits_of radix word) else None

-- the byte that two hexadecimal digits spell
abbrev pub pair_of : ℕ → ℕ → Option ℕ
pair_of high low =
    if is_digit high 16 && is_digit low 16 then Some (16 * digit_value high + digit_value low) else None
