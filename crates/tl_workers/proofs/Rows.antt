-- Rows of things, each with a number.
use Rattle.std.proofs.Common.{◌≡◌, ℕ, suc, ◌+◌, List, [], ◌∷◌, ◌++◌, length, slice_get, Option, Some, refl, sym, ap, subst, ◌∙◌, arith, length-append}
use Rattle.tl_types.proofs.Lists.{slice_get-push}
use Rattle.std.proofs.Common.{⊎_elim}
use Rattle.tl_workers.specs.Start.{AreFrom}

-- one thing is at one place
pub one_some : {X : Type 0} (o : Option X) (x y : X) → o ≡ Some x → o ≡ Some y → x ≡ y
one_some o x y p q = cc

module _ {X : Type 0} (P : ℕ → X → Type 0) where
  -- the first, and those after it
  pub row_head : (from : ℕ) (x : X) (xs ys : List X) → ys ≡ x ∷ xs → AreFrom P from ys → P from x
  row_head from x xs ys front all = let e : from + 0 ≡ from = omega arith in
      subst (λ (n : ℕ). P n x) e (all 0 x (subst (λ (l : List X). slice_get l 0 ≡ Some x) (sym front) refl))

  pub row_tail : (from next : ℕ) (x : X) (xs ys : List X) → ys ≡ x ∷ xs → next ≡ from + 1 → AreFrom P from ys
      → AreFrom P next xs
  row_tail from next x xs ys front more all k y is = let e : from + suc k ≡ next + k = omega (arith, more) in
      subst (λ (n : ℕ). P n y) e (all (suc k) y (subst (λ (l : List X). slice_get l (suc k) ≡ Some y) (sym front) is))

  -- one more at the end
  pub row_more : (xs ys : List X) (x : X) → ys ≡ xs ++ x ∷ [] → AreFrom P 0 xs → P (length xs) x → AreFrom P 0 ys
  row_more xs ys x pushed all last k y is = ⊎_elim (λ (old : slice_get xs k ≡ Some y). all k y old)
      (λ (new : (k ≡ length xs) × (x ≡ y)). let e : length xs ≡ 0 + k = omega (arith, new.0) in
      subst (λ (n : ℕ). P n y) e (subst (λ (z : X). P (length xs) z) new.1 last))
      (slice_get-push xs x y k (subst (λ (l : List X). slice_get l k ≡ Some y) pushed is))

  pub row_none : (from : ℕ) → AreFrom P from []
  row_none from k y is = absurd cc

pub length_more : {X : Type 0} (xs ys : List X) (x : X) → ys ≡ xs ++ x ∷ [] → length ys ≡ length xs + 1
length_more {X} xs ys x pushed = ap (λ (l : List X). length l) pushed ∙ length-append xs (x ∷ [])

pub row_empty : {X : Type 0} (P : ℕ → X → Type 0) (from : ℕ) (xs : List X) → length xs ≡ 0 → AreFrom P from xs
row_empty P from [] none = row_none P from
row_empty P from (x ∷ xs) none = absurd (omega arith)

-- what is so of all whatever their numbers is so of those after the first
pub row_rest : {X : Type 0} (P : X → Type 0) (x : X) (xs ys : List X) → ys ≡ x ∷ xs → AreFrom (λ _. P) 0 ys
    → AreFrom (λ _. P) 0 xs
row_rest {X} P x xs ys front all k y is =
    all (suc k) y (subst (λ (l : List X). slice_get l (suc k) ≡ Some y) (sym front) is)
