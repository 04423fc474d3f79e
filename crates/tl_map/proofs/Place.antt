-- What stands at a place of a list.
use Rattle.std.proofs.Common.{◌≡◌, ◌∙◌, ℕ, suc, ◌<◌, List, [], ◌∷◌, length, get_or, Option, Some, None, IsSomeAnd, slice_get, All, refl, sym, ap, arith}
use Rattle.std.proofs.lemmas.Option.{slice_get-get_or, slice_get_within, get_or_from_slice_get}

-- a value that is there, of which the fact holds
pub some_that : {A : Type 0} (P : A → Type 0) (o : Option A) → IsSomeAnd o P → (x : A) × (o ≡ Some x) × P x
some_that P None h = absurd h
some_that P (Some x) h = (x, refl, h)

-- what holds of the element that is read at a place holds of the one at that place, and the other way round
pub at_place : {A : Type 0} (P : A → Type 0) (xs : List A) (i : ℕ) (d : A) → i < length xs → P (get_or xs i d)
    → IsSomeAnd (slice_get xs i) P
at_place P xs i d within h = rw (slice_get-get_or xs i d within) h

pub read_place : {A : Type 0} (P : A → Type 0) (xs : List A) (i : ℕ) (d : A) → IsSomeAnd (slice_get xs i) P
    → P (get_or xs i d)
read_place P xs i d h = let found = some_that P (slice_get xs i) h in
    rw (get_or_from_slice_get xs i found.0 d found.1) found.2

pub place_within : {A : Type 0} (P : A → Type 0) (xs : List A) (i : ℕ) → IsSomeAnd (slice_get xs i) P → i < length xs
place_within P xs i h = let found = some_that P (slice_get xs i) h in slice_get_within xs i found.0 found.1

-- what holds of each element holds of the one at a place
pub of_all : {A : Type 0} (P : A → Type 0) (xs : List A) (i : ℕ) (x : A) → slice_get xs i ≡ Some x → All P xs → P x
of_all P xs i x here all = rw (sym (get_or_from_slice_get xs i x x here)) (all i x (slice_get_within xs i x here))

-- lists that are equal at each place are equal
pub same_at_each : {A : Type 0} (one other : List A) → length one ≡ length other
    → ((k : ℕ) (a b : A) → slice_get one k ≡ Some a → slice_get other k ≡ Some b → a ≡ b) → one ≡ other
same_at_each [] [] long each = refl
same_at_each [] (y ∷ other) long each = absurd (omega arith)
same_at_each (x ∷ one) [] long each = absurd (omega arith)
same_at_each {A} (x ∷ one) (y ∷ other) long each =
    ap (λ (a : A). a ∷ one) (each 0 x y refl refl)
    ∙ ap (λ (rest : List A). y ∷ rest) (same_at_each one other (omega arith)
    (λ k a b first second. each (suc k) a b first second))
