-- Lists that grow at their end, and lists in which one item is set.
use Rattle.std.proofs.Common.{◌≡◌, ◌≢◌, ℕ, zero, suc, ◌<◌, List, [], ◌∷◌, ◌++◌, length, get_or, set, refl, ap, sym, subst, arith, inl, inr, ⊎_elim, ◌⊎◌, get_or-set_same, get_or-set_other, Some, slice_get}
use mathlib.Core.Logic.{dite}
use native.Mathlib.Decide.{ℕ_discrete}

module _ {A : Type 0} where
  -- an item of a longer list is an old one, or the last
  pub at_end : (l : List A) (a b : A) (j : ℕ) → slice_get (l ++ a ∷ []) j ≡ Some b
      → ((j < length l) × (slice_get l j ≡ Some b)) ⊎ ((j ≡ length l) × (a ≡ b))
  at_end [] a b zero e = inr (refl, cc)
  at_end [] a b (suc j) e = absurd (cc)
  at_end (x ∷ xs) a b zero e = inl (omega arith, e)
  at_end (x ∷ xs) a b (suc j) e =
      ⊎_elim (λ (t : (j < length xs) × (slice_get xs j ≡ Some b)). inl (let l = t.0 in omega arith, t.1))
      (λ (t : (j ≡ length xs) × (a ≡ b)). inr (ap suc t.0, t.1)) (at_end xs a b j e)

  pub before_end : (l : List A) (a : A) (j : ℕ) → j < length l → slice_get (l ++ a ∷ []) j ≡ slice_get l j
  before_end [] a j h = absurd (omega arith)
  before_end (x ∷ xs) a zero h = refl
  before_end (x ∷ xs) a (suc j) h = before_end xs a j (omega arith)

  pub below_length : (l : List A) (j : ℕ) (a : A) → slice_get l j ≡ Some a → j < length l
  below_length [] j a e = absurd (cc)
  below_length (x ∷ xs) zero a e = omega arith
  below_length (x ∷ xs) (suc j) a e = let l = below_length xs j a e in omega arith

  pub ended : (l : List A) (a : A) (j : ℕ) → j ≡ length l → slice_get (l ++ a ∷ []) j ≡ Some a
  ended [] a zero e = refl
  ended [] a (suc j) e = absurd (omega arith)
  ended (x ∷ xs) a zero e = absurd (omega arith)
  ended (x ∷ xs) a (suc j) e = ended xs a j (omega arith)

  -- what stands at a place that there is
  pub get_here : (l : List A) (i : ℕ) (d : A) → i < length l → slice_get l i ≡ Some (get_or l i d)
  get_here [] i d h = absurd (omega arith)
  get_here (x ∷ xs) zero d h = refl
  get_here (x ∷ xs) (suc i) d h = get_here xs i d (omega arith)

  -- where an item is, the default does not tell
  pub any_default : (l : List A) (i : ℕ) (d b : A) → i < length l → get_or l i d ≡ get_or l i b
  any_default [] i d b h = absurd (omega arith)
  any_default (x ∷ xs) zero d b h = refl
  any_default (x ∷ xs) (suc i) d b h = any_default xs i d b (omega arith)

  -- what is looked up after one item is set
  pub set_elim : (l : List A) (i : ℕ) (a d : A) → i < length l → (P : ℕ → A → Type 0) → P i a
      → ((j : ℕ) → j ≢ i → P j (get_or l j d)) → (j : ℕ) → P j (get_or (set l i a) j d)
  set_elim l i a d near P here else j = dite (ℕ_discrete j i)
      (λ e. subst (λ (k : ℕ). P k (get_or (set l i a) k d)) (sym e)
      (subst (P i) (sym (get_or-set_same l i a d near)) here))
      (λ ne. subst (P j) (sym (get_or-set_other l i j a d ne)) (else j ne))

  -- the same where one item more is at the end
  pub end_elim : (l : List A) (x d : A) (P : ℕ → A → Type 0) → ((j : ℕ) → j < length l → P j (get_or l j d))
      → P (length l) x → ((j : ℕ) → length l < j → P j d) → (j : ℕ) → P j (get_or (l ++ x ∷ []) j d)
  end_elim [] x d P old here far zero = here
  end_elim [] x d P old here far (suc j) = far (suc j) (omega arith)
  end_elim (y ∷ ys) x d P old here far zero = old zero (omega arith)
  end_elim (y ∷ ys) x d P old here far (suc j) =
      end_elim ys x d (λ n. P (suc n)) (λ j lt. old (suc j) (omega arith)) here (λ j lt. far (suc j) (omega arith)) j

pub first_of : {A B : Type 0} (x y : A × B) → Some x ≡ Some y → x.0 ≡ y.0
first_of x y e = let same : x ≡ y = cc in ap (λ z. z.0) same
