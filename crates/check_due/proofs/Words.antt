-- The words of a row, with commas between them.
use Rattle.std.proofs.Common.{◌≡◌, ◌∙◌, ℕ, ◌<◌, ◌==◌, false, List, [], ◌∷◌, ◌++◌, arith, refl, ap}
use Rattle.std.specs.Prelude.{⊤}
use Rattle.std.proofs.lemmas.Bool.{ne_eqb}
use Rattle.check_rows.specs.Column.{column_parts}
use Rattle.check_samples.specs.Due.{IsPlain}
use Rattle.check_samples.proofs.Plain.{IsWord, plain-word}

abbrev pub AreWords : List (List ℕ) → Type 0
AreWords [] = ⊤
AreWords (word ∷ words) = IsWord word × AreWords words

-- a word and others, with commas between them
abbrev pub joined : List ℕ → List (List ℕ) → List ℕ
joined word [] = word
joined word (next ∷ words) = word ++ (44 ∷ joined next words)

-- ---- what stands between the commas

no-comma : (byte : ℕ) → 44 < byte → (byte == 44) ≡ false
no-comma byte above = ne_eqb byte 44 (λ (is : byte ≡ 44). omega (arith, is, above))

parts-at : (word rest : List ℕ) → IsWord word → column_parts (word ++ (44 ∷ rest)) ≡ word ∷ column_parts rest
parts-at [] rest is = refl
parts-at (byte ∷ word) rest is = rw (no-comma byte is.0, parts-at word rest is.1) refl

parts-last : (word : List ℕ) → IsWord word → column_parts word ≡ word ∷ []
parts-last [] is = refl
parts-last (byte ∷ word) is = rw (no-comma byte is.0, parts-last word is.1) refl

pub parts-joined : (word : List ℕ) (words : List (List ℕ)) → AreWords (word ∷ words)
    → column_parts (joined word words) ≡ word ∷ words
parts-joined word [] are = parts-last word are.0
parts-joined word (next ∷ words) are =
    parts-at word (joined next words) are.0
    ∙ ap (λ (parts : List (List ℕ)). word ∷ parts) (parts-joined next words are.1)

-- ---- no byte is below a comma

plain-append : (text more : List ℕ) → IsWord text → IsPlain more → IsPlain (text ++ more)
plain-append [] more is plain = plain
plain-append (byte ∷ text) more is plain = (omega (arith, is.0), plain-append text more is.1 plain)

pub plain-joined : (word : List ℕ) (words : List (List ℕ)) → AreWords (word ∷ words) → IsPlain (joined word words)
plain-joined word [] are = plain-word word are.0
plain-joined word (next ∷ words) are =
    plain-append word (44 ∷ joined next words) are.0 (omega arith, plain-joined next words are.1)
