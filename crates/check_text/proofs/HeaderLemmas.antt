-- Records, field by field.
use Rattle.std.proofs.Common.{◌≡◌, ℕ, zero, suc, ◌+◌, ◌<◌, Bool, true, false, nat_eq, List, [], ◌∷◌, length, get_or, Some, refl, sym, subst, eqb-true, arith}
use Rattle.std.proofs.lemmas.Bool.{eqb-false}
use Rattle.csv.specs.Records.{field_at}

-- the field at a place inside
pub field_inside : (fields : List (List ℕ)) (j : ℕ) → j < length fields → field_at fields j ≡ Some (get_or fields j [])
unfolding field_at
field_inside [] j within = absurd (omega (arith, within))
field_inside (f ∷ fields) zero within = refl
field_inside (f ∷ fields) (suc j) within = field_inside fields j (omega (arith, within))

-- as many fields, each the same
pub same_fields : (xs ys : List (List ℕ)) → length xs ≡ length ys
    → ((j : ℕ) → j < length ys → field_at xs j ≡ Some (get_or ys j [])) → xs ≡ ys
unfolding field_at
same_fields [] [] counted same = refl
same_fields [] (y ∷ ys) counted same = absurd (omega (arith, counted))
same_fields (x ∷ xs) [] counted same = absurd (omega (arith, counted))
same_fields (x ∷ xs) (y ∷ ys) counted same =
    let first : x ≡ y = cc (same 0 (omega arith)) in
    let more : xs ≡ ys = same_fields xs ys (omega (arith, counted))
    (λ j within. same (suc j) (omega (arith, within))) in
    rw (first, more) refl

-- one field more
pub one_more : (P : ℕ → Type 0) (place : ℕ) → ((j : ℕ) → j < place → P j) → P place → (j : ℕ) → j < place + 1 → P j
one_more P place so_far next j within = go (nat_eq j place) refl
  where
    go : (same : Bool) → nat_eq j place ≡ same → P j
    go true is = subst P (sym (eqb-true j place is)) next
    go false is = so_far j (below (eqb-false j place is))
      where
        below : (j ≡ place → ⊥) → j < place
        below other = omega (arith, within, other)
