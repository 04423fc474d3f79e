-- Bytes are read as they are printed.
use Rattle.std.proofs.Common.{◌≡◌, ◌∙◌, ℕ, suc, ◌+◌, ◌*◌, ◌/◌, ◌%◌, ◌<◌, true, false, ◌==◌, List, [], ◌∷◌, Option, Some, None, refl, ap, arith}
use Rattle.std.specs.Prelude.{All, IfSome}
use Rattle.std.proofs.lemmas.Bool.{lt-ltb}
use Rattle.std.proofs.lemmas.Bool.Decides.{nat_tests}
use Rattle.std.specs.Char.{digit_value, is_digit}
use Rattle.std.specs.Fmt.{digit_glyph}
use Rattle.tl_text.specs.Number.{pair_of}
use Rattle.tl_script.specs.Data.{byte_of, data_of, data_text}

glyph_value : (d : ℕ) → d < 16 → digit_value (digit_glyph false d) ≡ d
glyph_value d below = grind (arith, nat_tests)

glyph_digit : (d : ℕ) → d < 16 → is_digit (digit_glyph false d) 16 ≡ true
glyph_digit d below = rw (glyph_value d below) (lt-ltb d 16 below)

glyph_no_dash : (d : ℕ) → d < 16 → (digit_glyph false d == 45) ≡ false
glyph_no_dash d below = grind (arith, nat_tests)

pair_read : (high low : ℕ) → high < 16 → low < 16
    → pair_of (digit_glyph false high) (digit_glyph false low) ≡ Some (16 * high + low)
pair_read high low h l = rw (glyph_digit high h, glyph_digit low l, glyph_value high h, glyph_value low l) refl

byte_read : (high low : ℕ) → high < 16 → low < 16
    → byte_of (digit_glyph false high) (digit_glyph false low) ≡ Some (Some (16 * high + low))
byte_read high low h l = rw (glyph_no_dash high h, pair_read high low h l) refl

value_read : (value : ℕ) → value < 256 → byte_of (digit_glyph false (value / 16))
    (digit_glyph false (value % 16)) ≡ Some (Some value)
value_read value below =
    let whole : 16 * (value / 16) + value % 16 ≡ value = omega arith in
    byte_read (value / 16) (value % 16) (omega (arith, below)) (omega arith) ∙ ap (λ (n : ℕ). Some (Some n)) whole

abbrev IsByte : Option ℕ → Type 0
IsByte byte = IfSome byte (λ (value : ℕ). value < 256)

rest_bytes : (byte : Option ℕ) (bytes : List (Option ℕ)) → All IsByte (byte ∷ bytes) → All IsByte bytes
rest_bytes byte bytes all = λ k other within. all (suc k) other (omega (arith, within))

pub data_of-data_text : (bytes : List (Option ℕ)) → All IsByte bytes → data_of (data_text bytes) ≡ Some bytes
data_of-data_text [] all = refl
data_of-data_text (None ∷ bytes) all = rw (data_of-data_text bytes (rest_bytes None bytes all)) refl
data_of-data_text (Some value ∷ bytes) all =
    let here : value < 256 = all 0 None (omega arith) in
    rw (value_read value here, data_of-data_text bytes (rest_bytes (Some value) bytes all)) refl
