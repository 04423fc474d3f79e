-- The bits of bytes that are known or not, and bytes that nothing has written: this project's own.
use Rattle.std.specs.Prelude.{ℕ, Bool, true, false, Option, None, Some}

-- the bit of a byte that is known or not
abbrev pub known_bit : Bool → ℕ
known_bit false = 0
known_bit true = 1

-- the bit of a byte after a put: it is known if it is given, or was known
abbrev pub given_bit : ℕ → Option ℕ → ℕ
given_bit bit None = bit
given_bit bit (Some _) = 1

-- a byte that nothing has written
abbrev pub fill_of : Bool → Option ℕ
fill_of false = None
fill_of true = Some 0
