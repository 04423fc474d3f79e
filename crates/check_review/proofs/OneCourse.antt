-- The course of rows that crossed is one alone; and of a lawful one the rows before are lawful.
use Rattle.std.proofs.Common.{◌≡◌, ◌∙◌, ℕ, Bool, true, false, List, [], ◌∷◌, ◌++◌, sym, ap, subst}
use Rattle.std.specs.Prelude.{IsTrue}
use Rattle.check_flight.specs.PortSlave.{PortSlave}
use Rattle.check_watch.specs.Reset.{loaded_at}
use Rattle.check_sides.specs.Groups.{are_apart}
use Rattle.check_turns.specs.Lawful.{IsLawfulInOrder}
use Rattle.check_sides.specs.Plan.{Layout, Plan}
use Rattle.check_sides.proofs.OneReset.{one_reset}
use Rattle.check_rows.specs.Row.{SeenRow}
use Rattle.check_start.specs.Loads.{SystemPlan}
use Rattle.check_review.specs.Order.{sightings_of}
use Rattle.check_review.specs.Stretches.{AreStretches, EndsStretch, GoOnWith, IsLawfulStretch, Stretch, sightings_in}
use Rattle.check_review.proofs.Stretching.{same_layout}
use Rattle.check_review.proofs.Watched.{lawful_rest}

-- ---- one course

-- after a stretch the system goes on by one plan
one_plan : (system : SystemPlan) (last : Stretch) (next other : Plan) → last.plan.layout ≡ system.begins.layout
    → EndsStretch system last next → EndsStretch system last other → next ≡ other
one_plan system last next other layout is also =
    let own_loads : IsTrue (are_apart last.plan.layout) → (port : ℕ)
    → loaded_at is.own_loaded port ≡ loaded_at also.own_loaded port =
    λ apart port.
    let begun : IsTrue (are_apart system.begins.layout) =
    subst (λ (l : Layout). IsTrue (are_apart l)) layout apart in
    is.own_loads begun port ∙ sym (also.own_loads begun port) in
    let same = one_reset last.plan (sightings_in last) is.loaded also.loaded is.own_loaded also.own_loaded is.resets
    also.resets is.own also.own (λ port. is.loads port ∙ sym (also.loads port)) own_loads is.is also.is in
    is.goes_on ∙ ap (λ (r : List PortSlave). record last.plan { resets = r; own = is.own }) same.0
    ∙ ap (λ (o : List PortSlave). record last.plan { resets = also.resets; own = o }) same.1 ∙ sym also.goes_on

one_by : (is_reset : Bool) (system : SystemPlan) (row : SeenRow) (before : List SeenRow) (now other : Stretch)
    (ended others : List Stretch)
    → ((n m : Stretch) (e o : List Stretch) → AreStretches system before n e → AreStretches system before m o
    → (n ≡ m) × (e ≡ o))
    → GoOnWith is_reset system row (AreStretches system before) now ended
    → GoOnWith is_reset system row (AreStretches system before) other others → (now ≡ other) × (ended ≡ others)
one_by false system row before now other ended others rest is also =
    let same = rest (record now { rows = is.0 }) (record other { rows = also.0 }) ended others is.2 also.2 in
    let plan : now.plan ≡ other.plan = ap (λ (s : Stretch). s.plan) same.0 in
    let rows : now.rows ≡ other.rows =
    is.1 ∙ ap (λ l. row ∷ l) (ap (λ (s : Stretch). s.rows) same.0) ∙ sym also.1 in (
      (λ i. record { plan = plan i; rows = rows i }),
      same.1,
    )
one_by true system row before now other ended others rest is also =
    let same = rest is.0 also.0 is.1 also.1 is.4 also.4 in
    let ends : EndsStretch system is.0 other.plan =
    subst (λ (s : Stretch). EndsStretch system s other.plan) (sym same.0) also.5 in
    let plan : now.plan ≡ other.plan =
    one_plan system is.0 now.plan other.plan (same_layout system before is.0 is.1 is.4) is.5 ends in
    let rows : now.rows ≡ other.rows = is.2 ∙ sym also.2 in (
      (λ i. record { plan = plan i; rows = rows i }),
      is.3 ∙ (λ i. same.0 i ∷ same.1 i) ∙ sym also.3,
    )

pub one_course : (system : SystemPlan) (crossed : List SeenRow) (now other : Stretch) (ended others : List Stretch)
    → AreStretches system crossed now ended → AreStretches system crossed other others
    → (now ≡ other) × (ended ≡ others)
one_course system [] now other ended others is also = (is.0 ∙ sym also.0, is.1 ∙ sym also.1)
one_course system (row ∷ before) now other ended others is also =
    one_by row.is_reset system row before now other ended others
    (λ n m e o there also_there. one_course system before n m e o there also_there) is also

-- ---- the rows before

-- some rows have a course whose last stretch is lawful
abbrev pub HaveLawful : (Stretch → List Stretch → Type 0) → Type 0
HaveLawful Are = (now : Stretch) × (ended : List Stretch) × Are now ended × IsLawfulStretch now

lawful_by : (is_reset : Bool) (system : SystemPlan) (row : SeenRow) (Before : Stretch → List Stretch → Type 0)
    (now : Stretch) (ended : List Stretch) → GoOnWith is_reset system row Before now ended → IsLawfulStretch now
    → HaveLawful Before
lawful_by false system row Before now ended on lawful = (
  record now { rows = on.0 },
  ended,
  on.2,
  lawful_rest now.plan (row ∷ []) on.0
      (subst (λ l. IsLawfulInOrder now.plan (sightings_of now.plan.layout l)) on.1 lawful),
)
lawful_by true system row Before now ended on lawful = (on.0, on.1, on.4, on.5.lawful)

pub lawful_before : (system : SystemPlan) (after before : List SeenRow) (now : Stretch) (ended : List Stretch)
    → AreStretches system (after ++ before) now ended → IsLawfulStretch now → HaveLawful (AreStretches system before)
lawful_before system [] before now ended are lawful = (now, ended, are, lawful)
lawful_before system (row ∷ after) before now ended are lawful =
    let one = lawful_by row.is_reset system row (AreStretches system (after ++ before)) now ended are lawful in
    lawful_before system after before one.0 one.1 one.2 one.3
