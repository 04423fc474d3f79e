-- Lists with one more, and what they are before that.
use Rattle.std.proofs.Common.{◌≡◌, ◌∙◌, List, [], ◌∷◌, ◌++◌, length, refl, ap, sym, arith}

but_last : {X : Type 0} → List X → List X
but_last [] = []
but_last (x ∷ []) = []
but_last (x ∷ y ∷ xs) = x ∷ but_last (y ∷ xs)

but_last_is : {X : Type 0} (xs : List X) (x : X) → but_last (xs ++ x ∷ []) ≡ xs
unfolding but_last
but_last_is [] x = refl
but_last_is (y ∷ []) x = refl
but_last_is (y ∷ z ∷ xs) x = ap (λ l. y ∷ l) (but_last_is (z ∷ xs) x)

-- lists with one more each are the same before that, if they are the same
pub same_front : {X : Type 0} (xs ys more last : List X) → length more ≡ 1 → length last ≡ 1 → xs ++ more ≡ ys ++ last
    → xs ≡ ys
same_front xs ys [] last one one' same = absurd (omega (arith, one))
same_front xs ys (x ∷ w ∷ more) last one one' same = absurd (omega (arith, one))
same_front xs ys (x ∷ []) [] one one' same = absurd (omega (arith, one'))
same_front xs ys (x ∷ []) (y ∷ w ∷ last) one one' same = absurd (omega (arith, one'))
same_front xs ys (x ∷ []) (y ∷ []) one one' same =
    sym (but_last_is xs x) ∙ ap (λ l. but_last l) same ∙ but_last_is ys y
