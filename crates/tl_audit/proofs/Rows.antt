-- One row more.
use Rattle.std.proofs.Common.{◌≡◌, ◌∙◌, ℕ, ◌+◌, ◌<◌, List, [], ◌∷◌, ◌++◌, length, map, take, get_or, Vec, Global, ap, add-one, take-suc}
use Rattle.std.proofs.lemmas.List.{map-append}
use Rattle.tl_audit.specs.Marks.{rows_in}

-- what is made of the first of a list, and of one more
pub mapped_next : {A B : Type 0} (f : A → B) (xs : List A) (i : ℕ) (x : A) → i < length xs → get_or xs i x ≡ x
    → map f (take (i + 1) xs) ≡ map f (take i xs) ++ f x ∷ []
mapped_next f xs i x lt here =
    ap (λ (n : ℕ). map f (take n xs)) (add-one i) ∙ ap (map f) (take-suc xs i x lt)
    ∙ map-append f (take i xs) (get_or xs i x ∷ []) ∙ (λ t. map f (take i xs) ++ f (here t) ∷ [])

-- a vector more
pub rows_more : {A : Type 0} (rows now : List (Vec A Global)) (one : Vec A Global) (done : List (List A)) (own : List A)
    → now ≡ rows ++ one ∷ [] → rows_in rows ≡ done → one.items ≡ own → rows_in now ≡ done ++ own ∷ []
rows_more rows now one done own is same here =
    ap rows_in is ∙ map-append (λ v. v.items) rows (one ∷ []) ∙ (λ t. same t ++ here t ∷ [])
