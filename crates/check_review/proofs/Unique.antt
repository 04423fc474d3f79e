-- Rows cross in one order.
use Rattle.std.proofs.Common.{◌≡◌, ◌∙◌, ℕ, zero, suc, ◌<◌, ◌⊎◌, inl, inr, List, [], ◌∷◌, length, Contains, slice_index_or, refl, sym, subst, arith}
use Rattle.std.specs.List.{AllByRecursion}
use Rattle.std.specs.List.Sorted.{IsPermutation}
use Rattle.std.proofs.lemmas.List.Sorted.{IsPermutation-sym, IsPermutation-trans, Contains-permutation}
use Rattle.check_rows.specs.Row.{SeenRow}
use Rattle.check_review.specs.Order.{CrossesBefore, AreInOrder, IsCrossing}

-- the row is one of these
abbrev Has : List SeenRow → SeenRow → Type 0
Has [] row = ⊥
Has (first ∷ more) row = (first ≡ row) ⊎ Has more row

has_at : (rows : List SeenRow) (row : SeenRow) (k : ℕ) → k < length rows → slice_index_or rows k row ≡ row → Has rows row
has_at [] row k inside is = absurd (omega (arith, inside))
has_at (first ∷ more) row zero inside is = inl is
has_at (first ∷ more) row (suc k) inside is = inr (has_at more row k (omega (arith, inside)) is)

contains : (rows : List SeenRow) (row : SeenRow) → Has rows row → Contains rows row
contains [] row has = absurd has
contains (first ∷ more) row (inl is) = (0, omega arith, is)
contains (first ∷ more) row (inr has) =
    let rest = contains more row has in
    let inside = rest.1 in
    (suc rest.0, omega (arith, inside), rest.2)

carried : (a b : List SeenRow) → IsPermutation a b → (row : SeenRow) → Has a row → Has b row
carried a b same row has = let there = Contains-permutation a b row same (contains a row has) in
    has_at b row there.0 there.1 there.2

at : (P : SeenRow → Type 0) (rows : List SeenRow) (row : SeenRow) → AllByRecursion P rows → Has rows row → P row
at P [] row all has = absurd has
at P (first ∷ more) row all (inl is) = subst P is all.0
at P (first ∷ more) row all (inr has) = at P more row all.1 has

not_both : (one other : SeenRow) → CrossesBefore one other → CrossesBefore other one → ⊥
not_both one other (inl a) (inl b) = omega (arith, a, b)
not_both one other (inl a) (inr b) = let same = b.0 in omega (arith, a, same)
not_both one other (inr a) (inl b) = let same = a.0 in omega (arith, b, same)
not_both one other (inr a) (inr b) = let lower = a.1 in let higher = b.1 in omega (arith, lower, higher)

latest_by : (x y : SeenRow) (a b : List SeenRow) → AreInOrder (x ∷ a) → AreInOrder (y ∷ b) → (y ≡ x) ⊎ Has b x → (x ≡ y)
    ⊎ Has a y → x ≡ y
latest_by x y a b oa ob (inl is) back = sym is
latest_by x y a b oa ob (inr in_b) (inl is) = is
latest_by x y a b oa ob (inr in_b) (inr in_a) =
    absurd (not_both x y (at (λ e. CrossesBefore e y) b x ob.0 in_b) (at (λ e. CrossesBefore e x) a y oa.0 in_a))

-- what stands after the same latest row
rest_by : (x y z : SeenRow) (a b : List SeenRow) → AreInOrder (x ∷ a) → x ≡ y → Has a z → (y ≡ z) ⊎ Has b z → Has b z
rest_by x y z a b oa same has (inl is) =
    let P : SeenRow → Type 0 = λ r. CrossesBefore r x in
    let itself : CrossesBefore x x = subst P (sym (same ∙ is)) (at P a z oa.0 has) in
    absurd (not_both x x itself itself)
rest_by x y z a b oa same has (inr there) = there

one_order : (a b : List SeenRow) → AreInOrder a → AreInOrder b → ((row : SeenRow) → Has a row → Has b row)
    → ((row : SeenRow) → Has b row → Has a row) → a ≡ b
one_order [] [] oa ob to back = refl
one_order [] (y ∷ b) oa ob to back = absurd (back y (inl refl))
one_order (x ∷ a) [] oa ob to back = absurd (to x (inl refl))
one_order (x ∷ a) (y ∷ b) oa ob to back =
    let same : x ≡ y = latest_by x y a b oa ob (to x (inl refl)) (back y (inl refl)) in
    let rest : a ≡ b = one_order a b oa.1 ob.1
    (λ z has. rest_by x y z a b oa same has (to z (inr has)))
    (λ z has. rest_by y x z b a ob (sym same) has (back z (inr has))) in
    λ i. same i ∷ rest i

pub crossing_is_unique : (file a b : List SeenRow) → IsCrossing file a → IsCrossing file b → a ≡ b
crossing_is_unique file a b one other =
    let same : IsPermutation a b = IsPermutation-trans a file b (IsPermutation-sym file a one.same) other.same in
    one_order a b one.in_order other.in_order (carried a b same) (carried b a (IsPermutation-sym a b same))
