-- What was appended piece by piece, appended as one.
use Rattle.std.proofs.Common.{◌≡◌, ◌∙◌, ℕ, List, ◌++◌, ap}
use Rattle.std.proofs.lemmas.List.{append_assoc}

-- two labels, each with a number after it
pub two_fields : (text a b c d first last : List ℕ) → first ≡ text ++ a ++ b → last ≡ first ++ c ++ d
    → last ≡ text ++ (a ++ b ++ c ++ d)
two_fields text a b c d first last one two = two ∙ ap (λ l. l ++ c ++ d) one ∙ simp append_assoc

-- a label and a number, and four texts more
pub field_and_four : (text a b c d e f first second third fourth last : List ℕ) → first ≡ text ++ a ++ b
    → second ≡ first ++ c → third ≡ second ++ d → fourth ≡ third ++ e → last ≡ fourth ++ f
    → last ≡ text ++ (a ++ b ++ c ++ d ++ e ++ f)
field_and_four text a b c d e f first second third fourth last one two three four five =
    five
    ∙ ap (λ l. l ++ f) (four ∙ ap (λ l. l ++ e) (three ∙ ap (λ l. l ++ d) (two ∙ ap (λ l. l ++ c) one)))
    ∙ simp append_assoc
