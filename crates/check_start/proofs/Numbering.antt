-- The lists of masters, each with what is said of its port.
use Rattle.std.proofs.Common.{◌≡◌, List, [], ◌∷◌, map, refl, ap}
use Rattle.std.specs.List.{zip}

pub zip_mapped : {A B C : Type 0} (g : B → C) (xs : List A) (ys : List B)
    → map (λ (q : A × B). (q.0, g q.1)) (zip xs ys) ≡ zip xs (map g ys)
zip_mapped g [] ys = refl
zip_mapped g (x ∷ xs) [] = refl
zip_mapped g (x ∷ xs) (y ∷ ys) = ap (λ l. (x, g y) ∷ l) (zip_mapped g xs ys)
