-- Rows in the order in which their beats cross.
use Rattle.std.proofs.Common.{◌≡◌, ◌∙◌, ℕ, ◌+◌, ◌<◌, ◌≤◌, ◌⊎◌, inl, inr, List, [], ◌∷◌, ◌++◌, reverse, All, sym, ap, subst, arith}
use mathlib.Core.List.{reverse-cons}
use Rattle.std.specs.List.{AllByRecursion}
use Rattle.std.proofs.lemmas.List.{append_assoc, reverse-append}
use Rattle.std.proofs.lemmas.List.Elements.{recursion_from_All}
use Rattle.check_rows.specs.Moment.{Cross, place_of_row}
use Rattle.check_rows.specs.Row.{SeenRow}
use Rattle.check_review.specs.Order.{CrossesBefore, AreInOrder}

pub all_weaker : (P Q : SeenRow → Type 0) → ((row : SeenRow) → P row → Q row) → (rows : List SeenRow) → AllByRecursion P rows
    → AllByRecursion Q rows
all_weaker P Q to [] all = tt
all_weaker P Q to (row ∷ rows) all = (to row all.0, all_weaker P Q to rows all.1)

pub in_order_rest : (after before : List SeenRow) → AreInOrder (after ++ before) → AreInOrder before
in_order_rest [] before order = order
in_order_rest (row ∷ after) before order = in_order_rest after before order.1

-- a row more before those that cross after it
pub reversed_onto : (row : SeenRow) (more before : List SeenRow)
    → reverse (row ∷ more) ++ before ≡ reverse more ++ (row ∷ before)
reversed_onto row more before =
    ap (λ l. l ++ before) (reverse-cons row more) ∙ append_assoc (reverse more) (row ∷ []) before

-- some rows, one, and others, which cross in this order
pub reversed_middle : (done left before : List SeenRow) (row : SeenRow)
    → reverse (done ++ row ∷ left) ++ before ≡ reverse left ++ (row ∷ (reverse done ++ before))
reversed_middle done left before row =
    ap (λ l. l ++ before) (reverse-append done (row ∷ left) ∙ reversed_onto row left (reverse done))
    ∙ append_assoc (reverse left) (row ∷ reverse done) before

-- the row crosses before this place of this time
abbrev IsBelow : ℕ → ℕ → SeenRow → Type 0
IsBelow time place row = (row.time < time) ⊎ ((row.time ≡ time) × (place_of_row row < place))

below_row : (time low : ℕ) (row other : SeenRow) → row.time ≡ time → low ≤ place_of_row row → IsBelow time low other
    → CrossesBefore other row
below_row time low row other now above (inl earlier) = inl (omega arith)
below_row time low row other now above (inr same) = let at = same.0 in let lower = same.1 in
    inr (omega (arith, at, now), omega (arith, lower, above))

higher : (time low place : ℕ) (row : SeenRow) → low ≤ place → IsBelow time low row → IsBelow time place row
higher time low place row above (inl earlier) = inl earlier
higher time low place row above (inr same) = let lower = same.1 in inr (same.0, omega (arith, lower, above))

onto : (time low : ℕ) (rows before : List SeenRow) → Cross low rows → AllByRecursion (λ row. row.time ≡ time) rows
    → AllByRecursion (IsBelow time low) before
    → AreInOrder before → AreInOrder (reverse rows ++ before)
unfolding Cross
onto time low [] before cross now below order = order
onto time low (row ∷ more) before cross now below order =
    let above : low ≤ place_of_row row = cross.0 in
    let next : AllByRecursion (IsBelow time (place_of_row row + 1)) (row ∷ before) = (
      inr (now.0, omega arith),
      all_weaker (IsBelow time low) (IsBelow time (place_of_row row + 1))
          (λ other. higher time low (place_of_row row + 1) other (omega (arith, above))) before below,
    ) in
    let first : AreInOrder (row ∷ before) = (
      all_weaker (IsBelow time low) (λ other. CrossesBefore other row)
          (λ other. below_row time low row other now.0 above) before below,
      order,
    ) in
    subst AreInOrder (sym (reversed_onto row more before))
    (onto time (place_of_row row + 1) more (row ∷ before) cross.1 now.1 next first)

-- the rows of one time after those of earlier times
pub in_order_onto : (time : ℕ) (rows before : List SeenRow) → Cross 0 rows → All (λ row. row.time ≡ time) rows
    → AllByRecursion (λ row. row.time < time) before
    → AreInOrder before → AreInOrder (reverse rows ++ before)
in_order_onto time rows before cross now earlier order =
    onto time 0 rows before cross (recursion_from_All (λ row. row.time ≡ time) rows now)
    (all_weaker (λ row. row.time < time) (IsBelow time 0) (λ row lt. inl lt) before earlier) order
