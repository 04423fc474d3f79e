-- The front of a text says whether all of it is a dump.
use Rattle.std.proofs.Common.{◌≡◌, ◌∙◌, ◌⊎◌, inl, inr, ℕ, ◌+◌, ◌-◌, ◌≤◌, Bool, true, false, List, [], ◌∷◌, ◌++◌, length, take, Option, Some, None, IfSome, append-nil, ap, arith, refl, sym}
use Rattle.std.proofs.Math.Seq.{take-append-add}
use Rattle.std.proofs.lemmas.List.{take_all}
use Rattle.std.specs.Prelude.{◌||◌, ◌==◌, if◌then◌else◌}
use Rattle.std.specs.Io.KnownBytes.{Consumes}
use Rattle.std.specs.Fmt.{option_append}
use Rattle.check_program.specs.Dump.{IsText}
use Rattle.check_program.specs.Front.{IsFront, begins_dump, has_sign, is_dump, is_sign}
use Rattle.check_program.specs.declared.front.TheConstants.{MAX_FRONT}

pub has_sign-append : (text more : List ℕ) → has_sign more ≡ true → has_sign (text ++ more) ≡ true
has_sign-append [] more has = has
has_sign-append (byte ∷ text) more has = go (is_sign byte) (has_sign-append text more has)
  where
    go : (sign : Bool) → has_sign (text ++ more) ≡ true → (sign || has_sign (text ++ more)) ≡ true
    go true rest = refl
    go false rest = rest

take_front : (most : ℕ) (front rest : List ℕ) → length front ≤ most
    → take most (front ++ rest) ≡ front ++ take (most - length front) rest
take_front most front rest short =
    let is : most ≡ length front + (most - length front) = omega (arith, short) in
    ap (λ n. take n (front ++ rest)) is ∙ take-append-add front rest (most - length front)

-- what follows a byte that is no blank does not count
begins-append : (front rest : List ℕ) → has_sign front ≡ true → begins_dump (front ++ rest) ≡ begins_dump front
begins-append [] rest has = absurd (cc)
begins-append (byte ∷ front) rest has = go (is_sign byte) (begins-append front rest) has
  where
    go : (sign : Bool) → (has_sign front ≡ true → begins_dump (front ++ rest) ≡ begins_dump front)
        → (sign || has_sign front) ≡ true
        → (if sign then byte == 36 else begins_dump (front ++ rest)) ≡ (if sign then byte == 36 else begins_dump front)
    go true behind has = refl
    go false behind has = behind has

begins-front : (most : ℕ) (front rest : List ℕ) → length front ≤ most
    → (has_sign front ≡ true) ⊎ ((most ≤ length front) ⊎ (rest ≡ []))
    → begins_dump (take most (front ++ rest)) ≡ begins_dump front
begins-front most front rest short (inl has) =
    ap begins_dump (take_front most front rest short) ∙ begins-append front (take (most - length front) rest) has
begins-front most front rest short (inr (inl long)) =
    let none : most - length front ≡ 0 = omega (arith, short, long) in
    ap begins_dump (take_front most front rest short ∙ ap (λ n. front ++ take n rest) none ∙ append-nil front)
begins-front most front rest short (inr (inr end)) =
    ap (λ (r : List ℕ). begins_dump (take most (front ++ r))) end
    ∙ ap (λ (l : List ℕ). begins_dump (take most l)) (append-nil front)
    ∙ ap begins_dump (take_all most front short)

-- of a text that is known, whose front was taken
pub dump_by_front : (old new : Option (List ℕ)) (front : List ℕ) (flag : Bool) → Consumes old new front → IsFront front new
    → flag ≡ begins_dump front → IfSome old (λ text. is_dump text ≡ flag)
dump_by_front None new front flag taken is same = tt
dump_by_front (Some text) None front flag taken is same = absurd taken
dump_by_front (Some text) (Some rest) front flag taken is same =
    ap is_dump taken ∙ begins-front MAX_FRONT front rest is.short is.enough ∙ sym same

-- the front and the rest are the text
pub text_of_front : (old new : Option (List ℕ)) (front : List ℕ) → Consumes old new front
    → IsText old (option_append (Some front) new)
text_of_front None new front taken = tt
text_of_front (Some text) None front taken = absurd taken
text_of_front (Some text) (Some rest) front taken = ap Some (sym taken)
