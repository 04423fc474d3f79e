-- What is read at a place of a list, after a write, of a front part, and after a push.
use Rattle.std.proofs.Common.{◌≡◌, ℕ, zero, suc, ◌+◌, ◌<◌, List, [], ◌∷◌, ◌++◌, length, take, drop, set, Some, slice_get, refl, ap, ◌∙◌, arith, inl, inr, ◌⊎◌, ⊎_elim}

pub slice_get-set_same : {X : Type 0} (xs : List X) (i : ℕ) (x : X) → i < length xs → slice_get (set xs i x) i ≡ Some x
slice_get-set_same [] i x within = absurd (omega (arith, within))
slice_get-set_same (y ∷ xs) zero x within = refl
slice_get-set_same (y ∷ xs) (suc i) x within = slice_get-set_same xs i x (omega (arith, within))

pub slice_get-set_other : {X : Type 0} (xs : List X) (i k : ℕ) (x : X) → (i ≡ k → ⊥)
    → slice_get (set xs i x) k ≡ slice_get xs k
slice_get-set_other [] i k x other = refl
slice_get-set_other (y ∷ xs) zero zero x other = absurd (other refl)
slice_get-set_other (y ∷ xs) zero (suc k) x other = refl
slice_get-set_other (y ∷ xs) (suc i) zero x other = refl
slice_get-set_other (y ∷ xs) (suc i) (suc k) x other = slice_get-set_other xs i k x (λ e. other (ap suc e))

pub slice_get-take : {X : Type 0} (n : ℕ) (xs : List X) (k : ℕ) → k < n → slice_get (take n xs) k ≡ slice_get xs k
slice_get-take zero xs k below = absurd (omega (arith, below))
slice_get-take (suc n) [] k below = refl
slice_get-take (suc n) (x ∷ xs) zero below = refl
slice_get-take (suc n) (x ∷ xs) (suc k) below = slice_get-take n xs k (omega (arith, below))

pub slice_get-drop : {X : Type 0} (s : ℕ) (xs : List X) (k : ℕ) → slice_get (drop s xs) k ≡ slice_get xs (s + k)
slice_get-drop zero xs k = let e : k ≡ 0 + k = omega arith in ap (λ i. slice_get xs i) e
slice_get-drop (suc s) [] k = refl
slice_get-drop (suc s) (x ∷ xs) k = let e : suc (s + k) ≡ suc s + k = omega arith in
    slice_get-drop s xs k ∙ ap (λ i. slice_get (x ∷ xs) i) e

-- what is read after a push was read before, or is the pushed element
pub slice_get-push : {X : Type 0} (xs : List X) (x y : X) (k : ℕ) → slice_get (xs ++ x ∷ []) k ≡ Some y
    → (slice_get xs k ≡ Some y) ⊎ ((k ≡ length xs) × (x ≡ y))
slice_get-push [] x y zero is = inr (refl, cc)
slice_get-push [] x y (suc k) is = absurd (cc)
slice_get-push (z ∷ xs) x y zero is = inl is
slice_get-push (z ∷ xs) x y (suc k) is =
    ⊎_elim (λ before. inl before) (λ last. inr (ap suc last.0, last.1)) (slice_get-push xs x y k is)
