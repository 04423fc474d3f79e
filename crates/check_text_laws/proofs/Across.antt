-- What holds of all stretches between resets.
use Rattle.std.proofs.Common.{◌≡◌, ◌∙◌, ℕ, ◌+◌, ◌≤◌, Bool, true, false, List, [], ◌∷◌, length, refl, ap, subst, sym, arith}
use Rattle.std.specs.List.{AllByRecursion}
use Rattle.check_sides.specs.Plan.{IsPlan, Layout, Plan, bus_of}
use Rattle.check_rows.specs.Row.{SeenRow}
use Rattle.check_review.specs.Verdict.{SystemPlan}
use Rattle.check_review.specs.Stretches.{AreStretches, GoOnWith, IsLawfulStretch, Stretch}
use Rattle.check_text_laws.specs.Rules.{HaveLanes}

-- ---- rows

abbrev pub rows_in : List Stretch → ℕ
rows_in [] = 0
rows_in (stretch ∷ ended) = length stretch.rows + rows_in ended

rows_after : (is_reset : Bool) (system : SystemPlan) (row : SeenRow) (Before : Stretch → List Stretch → Type 0) (most : ℕ)
    (now : Stretch) (ended : List Stretch)
    → ((last : Stretch) (others : List Stretch) → Before last others → rows_in (last ∷ others) ≤ most)
    → GoOnWith is_reset system row Before now ended → rows_in (now ∷ ended) ≤ most + 1
rows_after false system row Before most now ended rest on =
    let rows = rest (record now { rows = on.0 }) ended on.2 in
    let more = ap length on.1 in
    omega (arith, rows, more)
rows_after true system row Before most now ended rest on =
    let rows = rest on.0 on.1 on.4 in
    let none = ap length on.2 in
    let are = ap rows_in on.3 in
    omega (arith, rows, none, are)

pub rows_at_most : (system : SystemPlan) (crossed : List SeenRow) (now : Stretch) (ended : List Stretch)
    → AreStretches system crossed now ended → rows_in (now ∷ ended) ≤ length crossed
rows_at_most system [] now ended are =
    let none = ap (λ (s : Stretch). length s.rows) are.0 in
    let no_others = ap rows_in are.1 in
    omega (arith, none, no_others)
rows_at_most system (row ∷ before) now ended are =
    let most = rows_after row.is_reset system row (AreStretches system before) (length before) now ended
    (λ last others is. rows_at_most system before last others is) are in
    omega (arith, most)

-- ---- what is lawful

lawful_after : (is_reset : Bool) (system : SystemPlan) (row : SeenRow) (Before : Stretch → List Stretch → Type 0)
    (now : Stretch) (ended : List Stretch)
    → ((last : Stretch) (others : List Stretch) → Before last others → AllByRecursion IsLawfulStretch others)
    → GoOnWith is_reset system row Before now ended → AllByRecursion IsLawfulStretch ended
lawful_after false system row Before now ended rest on = rest (record now { rows = on.0 }) ended on.2
lawful_after true system row Before now ended rest on =
    subst (λ l. AllByRecursion IsLawfulStretch l) (sym on.3) (on.5.lawful, rest on.0 on.1 on.4)

-- the stretches that resets have ended are lawful
pub ended_lawful : (system : SystemPlan) (crossed : List SeenRow) (now : Stretch) (ended : List Stretch)
    → AreStretches system crossed now ended → AllByRecursion IsLawfulStretch ended
ended_lawful system [] now ended are = subst (λ l. AllByRecursion IsLawfulStretch l) (sym are.1) tt
ended_lawful system (row ∷ before) now ended are =
    lawful_after row.is_reset system row (AreStretches system before) now ended
    (λ last others is. ended_lawful system before last others is) are

-- ---- plans and lanes

-- the layout is that of the beginning, the plan is one, and each row has the lanes of its link's bus
pub record Fits (layout : Layout) (stretch : Stretch) : Type 0 where
  pub layout_is : stretch.plan.layout ≡ layout
  pub plan_is : IsPlan stretch.plan
  pub lanes : AllByRecursion (λ (row : SeenRow). bus_of layout row.sighting.link ≤ length row.sighting.lanes) stretch.rows

fits_after : (is_reset : Bool) (system : SystemPlan) (row : SeenRow) (Before : Stretch → List Stretch → Type 0) (layout : Layout)
    (now : Stretch) (ended : List Stretch) → row.is_reset ≡ is_reset
    → (row.is_reset ≡ false → bus_of layout row.sighting.link ≤ length row.sighting.lanes)
    → ((last : Stretch) (others : List Stretch) → Before last others → AllByRecursion (Fits layout) (last ∷ others))
    → GoOnWith is_reset system row Before now ended → AllByRecursion (Fits layout) (now ∷ ended)
fits_after false system row Before layout now ended is have rest on =
    let before = rest (record now { rows = on.0 }) ended on.2 in (
      record {
        layout_is = before.0.layout_is;
        plan_is = before.0.plan_is;
        lanes = subst (λ l. AllByRecursion
            (λ (r : SeenRow). bus_of layout r.sighting.link ≤ length r.sighting.lanes) l) (sym on.1)
            (have is, before.0.lanes);
      },
      before.1,
    )
fits_after true system row Before layout now ended is have rest on =
    let before = rest on.0 on.1 on.4 in (
      record {
        layout_is = ap (λ (p : Plan). p.layout) on.5.goes_on ∙ before.0.layout_is;
        plan_is = on.5.plan;
        lanes = subst (λ l. AllByRecursion
            (λ (r : SeenRow). bus_of layout r.sighting.link ≤ length r.sighting.lanes) l) (sym on.2) tt;
      },
      subst (λ l. AllByRecursion (Fits layout) l) (sym on.3) before,
    )

pub each_fits : (system : SystemPlan) (crossed : List SeenRow) (now : Stretch) (ended : List Stretch)
    → IsPlan system.begins → HaveLanes system.begins.layout crossed → AreStretches system crossed now ended
    → AllByRecursion (Fits system.begins.layout) (now ∷ ended)
each_fits system [] now ended is have are = (
  subst (Fits system.begins.layout) (sym are.0) (record { layout_is = refl; plan_is = is; lanes = tt }),
  subst (λ l. AllByRecursion (Fits system.begins.layout) l) (sym are.1) tt,
)
each_fits system (row ∷ before) now ended is have are =
    fits_after row.is_reset system row (AreStretches system before) system.begins.layout now ended refl have.0
    (λ last others are_before. each_fits system before last others is have.1 are_before) are
