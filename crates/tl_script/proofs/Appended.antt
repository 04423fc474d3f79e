-- What a failed call leaves of a text that was appended to before it, and what calls in turn make of it.
use Rattle.std.proofs.Common.{◌≡◌, ◌∙◌, ap, ℕ, List, ◌++◌, Ok, Err, append_assoc}
use Rattle.std.specs.Result.{OnErr}
use Rattle.std.specs.declared.result.Result.{Result}
use Rattle.tl_text.specs.Text.{BeginsWith}
use Rattle.tl_text.proofs.TextLemmas.{begins_appended}

-- what holds, holds if there is an error
pub on_err : {T E : Type 0} {P : Type 0} (r : Result T E) → P → OnErr r P
on_err (Ok x) holds = tt
on_err (Err e) holds = holds

-- two texts were appended
pub twice : (old a b new : List ℕ) → new ≡ old ++ a ++ b → BeginsWith old new
twice old a b new is = begins_appended old (a ++ b) new (is ∙ append_assoc old a b)

-- four texts
pub four : (text a b c d first second third last : List ℕ) → first ≡ text ++ a → second ≡ first ++ b → third ≡ second ++ c
    → last ≡ third ++ d → last ≡ text ++ (a ++ b ++ c ++ d)
four text a b c d first second third last one two three four_is =
    four_is ∙ ap (λ l. l ++ d) (three ∙ ap (λ l. l ++ c) (two ∙ ap (λ l. l ++ b) one)) ∙ simp append_assoc
