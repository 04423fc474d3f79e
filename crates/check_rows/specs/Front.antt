-- The first column of a line, up to its comma, and what stands behind it. This project's own.
use Rattle.std.specs.Prelude.{◌≡◌, ℕ, ◌≤◌, true, List, ◌∷◌, length, take, Result, Ok}
use Rattle.std.specs.Char.{is_digit}
use Rattle.std.specs.List.{list_all}
use Rattle.std.specs.Str.Parse.{digits_value}
use Rattle.tl_text.specs.Number.{are_digits}
use Rattle.check_rows.specs.Column.{column_parts}
use Rattle.check_rows.specs.Row.{SeenBeat}
use Rattle.check_rows.specs.declared.fault.RowFault.{RowFault}

-- the text begins with so many digits, which spell the number
pub record BeginsWithNumber (radix : ℕ) (text : List ℕ) (number count : ℕ) : Type 0 where
  pub inside : count ≤ length text
  pub digits : list_all (λ c. is_digit c radix) (take count text) ≡ true
  pub value : number ≡ digits_value radix (take count text)

-- the first column of a text is a decimal number, and the rest stands behind its comma
pub record FirstIsNumber (text : List ℕ) (number : ℕ) (rest : List ℕ) : Type 0 where
  pub word : List ℕ
  pub parts : column_parts text ≡ word ∷ column_parts rest
  pub digits : are_digits 10 word ≡ true
  pub value : number ≡ digits_value 10 word

-- the first column of a text spells this value, and the rest stands behind its comma
pub record FirstSpells {A : Type 0} (read : List ℕ → Result A RowFault) (text : List ℕ) (value : A)
    (rest : List ℕ) : Type 0 where
  pub word : List ℕ
  pub parts : column_parts text ≡ word ∷ column_parts rest
  pub spells : read word ≡ Ok value

-- the last nine columns of a row, which are all of a text, spell this beat
pub record LastSpell (read : List (List ℕ) → Result SeenBeat RowFault) (text : List ℕ) (seen : SeenBeat) : Type 0 where
  pub nine : length (column_parts text) ≡ 9
  pub spells : (time link channel : List ℕ) → read (time ∷ link ∷ channel ∷ column_parts text) ≡ Ok seen
