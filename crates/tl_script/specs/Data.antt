-- The bytes of an operation, as a word spells them: two hexadecimal digits a byte, and `--` for an unset one.
use Rattle.std.specs.Prelude.{ℕ, ◌/◌, ◌%◌, false, ◌&&◌, List, [], ◌∷◌, ◌==◌, Option, Some, None, if◌then◌else◌, option_and_then, option_map, flat_map}
use Rattle.std.specs.Fmt.{digit_glyph}
use Rattle.tl_text.specs.Number.{pair_of}

-- the byte `-`, of which two spell an unset byte.
abbrev pub dash : ℕ
dash = 45

-- what two characters spell: an unset byte by dashes, or a byte
abbrev pub byte_of : ℕ → ℕ → Option (Option ℕ)
byte_of high low = if (high == dash) && (low == dash) then Some None else option_map Some (pair_of high low)

-- the bytes that a word spells
abbrev pub data_of : List ℕ → Option (List (Option ℕ))
data_of [] = Some []
data_of (high ∷ []) = None
data_of (high ∷ low ∷ more) =
    option_and_then (λ byte. option_map (λ bytes. byte ∷ bytes) (data_of more)) (byte_of high low)

-- how a byte is printed: two hexadecimal digits, or `--` if it is unset.
abbrev pub byte_text : Option ℕ → List ℕ
byte_text None = dash ∷ dash ∷ []
byte_text (Some byte) = digit_glyph false (byte / 16) ∷ digit_glyph false (byte % 16) ∷ []

-- how bytes are printed: two characters for each, one after the other.
abbrev pub data_text : List (Option ℕ) → List ℕ
data_text bytes = flat_map byte_text bytes
