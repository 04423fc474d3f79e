-- Bytes that are known alike.
use Rattle.std.proofs.Common.{◌≡◌, ℕ, suc, List, [], ◌∷◌, length, Option, Some, None, ap, sym, refl, arith}
use Rattle.check_cells.specs.Known.{IsBelow}

first_same : (x y : Option ℕ) → ((byte : ℕ) → x ≡ Some byte → y ≡ Some byte)
    → ((byte : ℕ) → y ≡ Some byte → x ≡ Some byte) → x ≡ y
first_same (Some u) y up down = sym (up u refl)
first_same None (Some v) up down = down v refl
first_same None None up down = refl

rest_below : (x y : Option ℕ) (a b : List (Option ℕ)) → IsBelow (x ∷ a) (y ∷ b) → IsBelow a b
rest_below x y a b below = record {
  counted = omega (arith, below.counted);
  kept = λ place byte is. below.kept (suc place) byte is;
}

-- each says no less than the other
pub below_both : (a b : List (Option ℕ)) → IsBelow a b → IsBelow b a → a ≡ b
below_both [] [] up down = refl
below_both [] (y ∷ b) up down = absurd (omega (arith, up.counted))
below_both (x ∷ a) [] up down = absurd (omega (arith, down.counted))
below_both (x ∷ a) (y ∷ b) up down =
    let first : x ≡ y = first_same x y (up.kept 0) (down.kept 0) in
    let rest : a ≡ b = below_both a b (rest_below x y a b up) (rest_below y x b a down) in cc

pub below_own : (a b : List (Option ℕ)) → a ≡ b → IsBelow a b
below_own a b is = record { counted = ap length (sym is); kept = λ place byte at. rw (← is) at }
