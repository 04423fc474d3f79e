-- Steps of lists, at their end.
use Rattle.std.proofs.Common.{◌≡◌, ℕ, zero, suc, List, [], ◌∷◌, ◌++◌, length, zip, refl, ap, arith}
use Rattle.std.specs.Prelude.{drop}

-- more on one side changes no pair
pub zip_past : {X Y : Type 0} (xs more : List X) (ys : List Y) → length xs ≡ length ys → zip (xs ++ more) ys ≡ zip xs ys
zip_past [] [] [] same = refl
zip_past [] (x ∷ more) [] same = refl
zip_past [] more (y ∷ ys) same = absurd (omega (arith, same))
zip_past (x ∷ xs) more [] same = absurd (omega (arith, same))
zip_past (x ∷ xs) more (y ∷ ys) same = ap (λ l. (x, y) ∷ l) (zip_past xs more ys (omega (arith, same)))

pub zip_more : {X Y : Type 0} (xs : List X) (ys : List Y) (x : X) (y : Y) → length xs ≡ length ys
    → zip (xs ++ x ∷ []) (ys ++ y ∷ []) ≡ zip xs ys ++ (x, y) ∷ []
zip_more [] [] x y same = refl
zip_more [] (v ∷ ys) x y same = absurd (omega (arith, same))
zip_more (u ∷ xs) [] x y same = absurd (omega (arith, same))
zip_more (u ∷ xs) (v ∷ ys) x y same = ap (λ l. (u, v) ∷ l) (zip_more xs ys x y (omega (arith, same)))

-- the element after a beginning of this length
pub drop_front : {X : Type 0} (xs more : List X) (n : ℕ) → n ≡ length xs → drop n (xs ++ more) ≡ more
drop_front [] more zero is = refl
drop_front [] more (suc n) is = absurd (omega (arith, is))
drop_front (x ∷ xs) more zero is = absurd (omega (arith, is))
drop_front (x ∷ xs) more (suc n) is = drop_front xs more n (omega (arith, is))
