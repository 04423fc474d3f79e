-- Where in a list a property fails first.
use Rattle.std.specs.Prelude.{ℕ, ◌<◌, ◌≡◌, List, Some, slice_get, IsSomeAnd}

-- each of the first n elements has the property
abbrev pub HoldsBelow : {A : Type 0} → (A → Type 0) → List A → ℕ → Type 0
HoldsBelow {A} P xs n = (k : ℕ) (x : A) → k < n → slice_get xs k ≡ Some x → P x

-- the element at n is the lowest without the property
pub record FailsFirstAt {A : Type 0} (P : A → Type 0) (xs : List A) (n : ℕ) : Type 0 where
  pub here : IsSomeAnd (slice_get xs n) (λ x. P x → ⊥)
  pub before : HoldsBelow P xs n
