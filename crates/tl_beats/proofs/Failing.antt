-- The lowest beat without a property, beat by beat, and what is said of a first beat.
use Rattle.std.proofs.Common.{◌≡◌, ℕ, ◌+◌, ◌<◌, ◌≤◌, ◌⊎◌, inl, inr, List, length, Option, Some, None, slice_get, get_or, refl, subst, arith}
use Rattle.std.specs.Prelude.{IsSomeAnd}
use Rattle.std.proofs.lemmas.Bool.{cases_lt}
use Rattle.std.proofs.lemmas.Option.{slice_get_within, slice_get-get_or}
use Rattle.tl_types.specs.List.{HoldsBelow, FailsFirstAt}

-- what is said of an element, at the element
pub at_element : {A : Type 0} (P : A → Type 0) (o : Option A) → IsSomeAnd o P → (x : A) × (o ≡ Some x) × P x
at_element P None h = absurd h
at_element P (Some x) h = (x, refl, h)

-- one more element has the property
pub holds_more : {A : Type 0} (P : A → Type 0) (xs : List A) (b : ℕ) (here : A) → HoldsBelow P xs b
    → slice_get xs b ≡ Some here → P here → HoldsBelow P xs (b + 1)
holds_more P xs b here below at holds k x h found = go (cases_lt k b)
  where
    go : (k < b) ⊎ (b ≤ k) → P x
    go (inl lower) = below k x lower found
    go (inr above) =
        let last : k ≡ b = omega (arith, h, above) in
        let same : here ≡ x = cc in
        subst P same holds

pub holds_more_at : {A : Type 0} (P : A → Type 0) (xs : List A) (b : ℕ) (d : A) → HoldsBelow P xs b → b < length xs
    → P (get_or xs b d) → HoldsBelow P xs (b + 1)
holds_more_at P xs b d below within holds =
    holds_more P xs b (get_or xs b d) below (slice_get-get_or xs b d within) holds

-- no element fails where all hold
pub none_fails : {A : Type 0} (P : A → Type 0) (xs : List A) (b : ℕ) → HoldsBelow P xs (length xs) → FailsFirstAt P xs b
    → ⊥
none_fails P xs b all fails =
    let bad = at_element (λ x. P x → ⊥) (slice_get xs b) fails.here in
    bad.2 (all b bad.0 (slice_get_within xs b bad.0 bad.1) bad.1)
