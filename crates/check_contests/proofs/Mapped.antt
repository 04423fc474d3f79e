-- A list whose items a loop changes one after the other.
use Rattle.std.proofs.Common.{◌≡◌, ◌∙◌, ℕ, zero, suc, ◌+◌, ◌<◌, List, [], ◌∷◌, ◌++◌, length, map, take, drop, set, get_or, refl, sym, ap, arith}

set-mapped_suc : {A : Type 0} (f : A → A) (items : List A) (place : ℕ) (item : A) → place < length items
    → item ≡ get_or items place item
    → set (map f (take place items) ++ drop place items) place (f item)
    ≡ map f (take (suc place) items) ++ drop (suc place) items
set-mapped_suc f [] place item below is = absurd (omega (arith, below))
set-mapped_suc f (first ∷ items) zero item below is = ap (λ e. f e ∷ items) is
set-mapped_suc f (first ∷ items) (suc place) item below is =
    ap (λ es. f first ∷ es) (set-mapped_suc f items place item (omega (arith, below)) is)

pub set-mapped : {A : Type 0} (f : A → A) (items : List A) (place : ℕ) (item : A)
    → place < length items → item ≡ get_or items place item
    → set (map f (take place items) ++ drop place items) place (f item)
    ≡ map f (take (place + 1) items) ++ drop (place + 1) items
set-mapped f items place item below is =
    let next : place + 1 ≡ suc place = omega arith in
    set-mapped_suc f items place item below is ∙ ap (λ n. map f (take n items) ++ drop n items) (sym next)

pub get_or-mapped : {A : Type 0} (f : A → A) (items : List A) (place : ℕ) (d : A)
    → get_or (map f (take place items) ++ drop place items) place d ≡ get_or items place d
get_or-mapped f [] zero d = refl
get_or-mapped f [] (suc place) d = refl
get_or-mapped f (first ∷ items) zero d = refl
get_or-mapped f (first ∷ items) (suc place) d = get_or-mapped f items place d

get_or_any : {A : Type 0} (items : List A) (place : ℕ) (d e : A) → place < length items
    → get_or items place d ≡ get_or items place e
get_or_any [] place d e below = absurd (omega (arith, below))
get_or_any (first ∷ items) zero d e below = refl
get_or_any (first ∷ items) (suc place) d e below = get_or_any items place d e (omega (arith, below))

-- a step of the loop that changes each
pub mapped-more : {A : Type 0} (f : A → A) (items now : List A) (place : ℕ) (d new : A)
    → place < length items → now ≡ map f (take place items) ++ drop place items → new ≡ f (get_or now place d)
    → set now place new ≡ map f (take (place + 1) items) ++ drop (place + 1) items
mapped-more {A = A} f items now place d new below is made =
    let item : A = get_or items place d in
    let here : get_or now place d ≡ item =
    ap (λ es. get_or es place d) is ∙ get_or-mapped f items place d in
    ap (λ e. set now place e) (made ∙ ap f here)
    ∙ ap (λ es. set es place (f item)) is
    ∙ set-mapped f items place item below (get_or_any items place d item below)
