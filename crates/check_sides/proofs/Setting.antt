-- One of several flags is set.
use Rattle.std.proofs.Common.{◌≡◌, ◌∙◌, ℕ, zero, suc, ◌<◌, Bool, true, false, List, [], ◌∷◌, length, refl, ap, sym, arith}
use Rattle.std.specs.Prelude.{◌||◌, ◌↔◌, Any, IsTrue, slice_index_or}
use Rattle.check_sides.specs.Groups.{is_any_set}

or_true : (flag rest : Bool) → rest ≡ true → (flag || rest) ≡ true
or_true true rest is = refl
or_true false rest is = is

set_of : (flags : List Bool) (k : ℕ) (flag : Bool) → k < length flags → slice_index_or flags k flag ≡ flag → IsTrue flag
    → is_any_set flags ≡ true
set_of [] k flag inside read is = absurd (omega (arith, inside))
set_of (first ∷ flags) zero flag inside read is = ap (λ b. b || is_any_set flags) (read ∙ is)
set_of (first ∷ flags) (suc k) flag inside read is =
    or_true first (is_any_set flags) (set_of flags k flag (omega (arith, inside)) read is)

some_set : (flags : List Bool) → is_any_set flags ≡ true → Any (λ flag. IsTrue flag) flags
some_set [] is = absurd cc
some_set (true ∷ flags) is = (0, true, omega arith, refl, refl)
some_set (false ∷ flags) is =
    let rest = some_set flags is in (suc rest.0, rest.1, omega (arith, rest.2), rest.3, rest.4)

-- if a flag is set, one is
pub any_from : (flags : List Bool) (k : ℕ) → slice_index_or flags k false ≡ true → is_any_set flags ≡ true
any_from [] k is = absurd cc
any_from (flag ∷ flags) zero is = ap (λ b. b || is_any_set flags) is
any_from (flag ∷ flags) (suc k) is = or_true flag (is_any_set flags) (any_from flags k is)

pub is_set_by : (result : Bool) (flags : List Bool) → (IsTrue result ↔ Any (λ flag. IsTrue flag) flags)
    → result ≡ is_any_set flags
is_set_by true flags is =
    let some = is.0 refl in sym (set_of flags some.0 some.1 some.2 some.3 some.4)
is_set_by false flags is = go (is_any_set flags) refl
  where
    go : (set : Bool) → is_any_set flags ≡ set → false ≡ set
    go true so = is.1 (some_set flags so)
    go false so = refl
