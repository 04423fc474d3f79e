-- The bytes at hand.
use Rattle.std.proofs.Common.{◌≡◌, ℕ, ◌+◌, ◌-◌, ◌<◌, ◌≤◌, List, ◌∷◌, length, get_or, slice_range, refl, arith, suc}
use Rattle.std.proofs.lemmas.List.{drop_more}

-- the first of them, and the others
pub hand-first : (xs : List ℕ) (from to byte : ℕ) → from < to → to ≤ length xs
    → slice_range xs from to ≡ get_or xs from byte ∷ slice_range xs (from + 1) to
hand-first xs from to byte some inside =
    let count : to - from ≡ suc (to - (from + 1)) = omega (arith, some) in
    rw (count, drop_more xs from byte (omega (arith, some, inside))) refl
