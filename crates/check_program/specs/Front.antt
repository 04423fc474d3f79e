-- Whether what is judged is a capture or a dump. This project's own; that a dump begins with a keyword after blanks is the
-- rule of IEEE 1364, "Value change dump files".
use Rattle.std.specs.Prelude.{◌≡◌, ◌≤◌, ◌⊎◌, ℕ, Bool, true, false, ◌==◌, ◌||◌, nat_lt, if◌then◌else◌, List, [], ◌∷◌, length, take, Option}
use Rattle.std.specs.Io.KnownBytes.{IsAtEnd}
use Rattle.check_program.specs.declared.front.TheConstants.{MAX_FRONT}

-- no blank: neither a space nor a byte of control
abbrev pub is_sign : ℕ → Bool
is_sign byte = nat_lt 32 byte

-- whether a text has such a byte.
abbrev pub has_sign : List ℕ → Bool
has_sign [] = false
has_sign (byte ∷ text) = is_sign byte || has_sign text

-- whether the first such byte of a text is a dollar sign.
abbrev pub begins_dump : List ℕ → Bool
begins_dump [] = false
begins_dump (byte ∷ text) = if is_sign byte then byte == 36 else begins_dump text

-- a text is a dump: the first of so many bytes that is no blank is a dollar sign
abbrev pub is_dump : List ℕ → Bool
is_dump text = begins_dump (take MAX_FRONT text)

-- the front of a text says what it is: it has a byte that is no blank, or it is as long as is looked at, or it is all
pub record IsFront (front : List ℕ) (rest : Option (List ℕ)) : Type 0 where
  pub short : length front ≤ MAX_FRONT
  pub enough : (has_sign front ≡ true) ⊎ ((MAX_FRONT ≤ length front) ⊎ IsAtEnd rest)
