-- What stands in a list that is mapped.
use Rattle.std.proofs.Common.{◌≡◌, ◌∙◌, ℕ, zero, suc, Bool, false, List, Option, Some, None, replicate, slice_get, ap, sym, subst, refl}
use Rattle.std.specs.Prelude.{map, option_map}
use Rattle.std.proofs.lemmas.Option.{slice_get-map}

pub from_map : {A B : Type 0} (f : A → B) (P : B → Type 0) (xs : List A) (k : ℕ) → ((x : A) → slice_get xs k ≡ Some x → P (f x)) → (y : B) → slice_get (map f xs) k ≡ Some y → P y
from_map {A} {B} f P xs k each y at = go (slice_get xs k) refl
  where
    go : (o : Option A) → slice_get xs k ≡ o → P y
    go None is = let none : option_map f (slice_get xs k) ≡ Some y = sym (slice_get-map f xs k) ∙ at in let e : option_map f None ≡ Some y = ap (λ (p : Option A). option_map f p) (sym is) ∙ none in absurd (cc)
    go (Some x) is = let there : option_map f (slice_get xs k) ≡ Some y = sym (slice_get-map f xs k) ∙ at in let e : Some (f x) ≡ Some y = ap (λ (p : Option A). option_map f p) (sym is) ∙ there in let same : f x ≡ y = cc in subst P same (each x is)

pub in_map : {A B : Type 0} (f : A → B) (xs : List A) (k : ℕ) (x : A) → slice_get xs k ≡ Some x → slice_get (map f xs) k ≡ Some (f x)
in_map {A} f xs k x is = slice_get-map f xs k ∙ ap (λ (p : Option A). option_map f p) is

-- a mark among those that are not set
pub none_marked : (n j : ℕ) (mark : Bool) → slice_get (replicate {A = Bool} n false) j ≡ Some mark → mark ≡ false
none_marked zero j mark is = absurd (cc)
none_marked (suc n) zero mark is = let same : false ≡ mark = cc in sym same
none_marked (suc n) (suc j) mark is = none_marked n j mark is
