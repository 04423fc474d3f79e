-- The row among some at which a judge stops, with what is told.
use Rattle.std.proofs.Common.{◌≡◌, ◌∙◌, ℕ, ◌+◌, ◌<◌, ◌≤◌, ◌⊎◌, All, Bool, true, false, List, [], ◌∷◌, ◌++◌, Some, reverse, length, get_or, slice_get, take, drop, Result, Ok, Err, IfOk, IfErr, refl, sym, ap, subst, arith}
use Rattle.std.specs.List.Sorted.{IsPermutation}
use Rattle.std.proofs.lemmas.List.{drop_more, length-take-le, reverse-append, take-append-drop, take_all, take_more}
use Rattle.std.proofs.lemmas.List.Elements.{All-append, All-from_recursion}
use Rattle.std.proofs.lemmas.List.Sorted.{All-permutation}
use Rattle.std.proofs.lemmas.Option.{get_or_from_slice_get}
use Rattle.check_beats.specs.Bus.{bus_bytes}
use Rattle.check_sides.specs.Plan.{Layout, bus_of}
use Rattle.check_rows.specs.Row.{SeenRow, seen_row, row_with}
use Rattle.check_rows.specs.declared.row.Row.{Row}
use Rattle.check_review.specs.declared.stop.Refusal.{Refusal}
use Rattle.check_review.specs.declared.stop.Refusal.TheVariants as refusal
use Rattle.check_review.specs.declared.stop.Unlawful.{Unlawful}
use Rattle.check_review.specs.declared.tally.Tally.{Tally}
use Rattle.check_start.specs.Loads.{SystemPlan}
use Rattle.check_review.specs.Stretches.{Stretches, stretches}
use Rattle.check_review.specs.Steps.{SameAsked}
use Rattle.check_review.specs.Order.{sightings_of}
use Rattle.check_review.specs.Told.{AppendsTold, GrowsTold}
use Rattle.check_review.specs.Verdict.{IsLateAfter, IsUnlawfulAfter, MayWantAfter, MayWantAmong, OfUnlawful, StopsAt, StopsTelling}
use Rattle.check_review.specs.View.{HasLanes, KeepsOn, Kept}
use Rattle.check_review.proofs.Stretching.{course_on, grows_on, grows_then}

pub same_then : (a b c : Tally) → SameAsked a b → SameAsked b c → SameAsked a c
same_then a b c before after = record {
  layout = after.layout ∙ before.layout;
  loads = after.loads ∙ before.loads;
  trace = after.trace ∙ before.trace;
  asked = after.asked ∙ before.asked;
  covered = after.covered ∙ before.covered;
  timed = after.timed ∙ before.timed;
}

-- what follows from what is said of the unlawful row
pub of_unlawful : (P Q : Unlawful → Type 0) (why : Refusal) → ((found : Unlawful) → P found → Q found)
    → OfUnlawful P why → OfUnlawful Q why
of_unlawful P Q (refusal.Unlawful found) to is = to found is
of_unlawful P Q refusal.Memory to is = tt

-- a row among some, those before it, and those after it
pub split : (rows : List SeenRow) (i : ℕ) (row : SeenRow) → i < length rows → get_or rows i row ≡ row
    → rows ≡ take i rows ++ row ∷ drop (i + 1) rows
split rows i row inside here =
    sym (take-append-drop i rows) ∙ ap (λ l. take i rows ++ l)
    (drop_more rows i row inside ∙ ap (λ r. r ∷ drop (i + 1) rows) here)

-- one row more, the latest first
pub one_more : (rows before : List SeenRow) (i : ℕ) (row : SeenRow) → i < length rows → get_or rows i row ≡ row
    → reverse (take (i + 1) rows) ++ before ≡ row ∷ (reverse (take i rows) ++ before)
one_more rows before i row inside here =
    ap (λ l. reverse l ++ before) (take_more rows i row inside ∙ ap (λ r. take i rows ++ r ∷ []) here)
    ∙ ap (λ l. l ++ before) (reverse-append (take i rows) (row ∷ []))

abbrev pub stops_at : (plan : SystemPlan) (rows before : List SeenRow) (i : ℕ) (row : SeenRow) (found : Unlawful) → i < length rows
    → get_or rows i row ≡ row → row.is_reset ≡ false → (course : Stretches plan (reverse (take i rows) ++ before))
    → (IsUnlawfulAfter course.now row found ⊎ IsLateAfter plan.within course.now row found) → StopsAt plan rows before found
stops_at plan rows before i row found inside here beat course unlawful = record {
  next = Some row;
  some = row;
  there = (i, inside, here);
  done = take i rows;
  left = drop (i + 1) rows;
  are = split rows i row inside here;
  course = course;
  is = (refl, beat, unlawful);
  last = λ none. absurd (cc);
}

pub stops_there : (trace : Bool) (plan : SystemPlan) (rows before : List SeenRow) (i : ℕ) (row : SeenRow)
    (course : Stretches plan before) (mid : Stretches plan (reverse (take i rows) ++ before)) (old now next : List ℕ) (why : Refusal)
    → i < length rows → get_or rows i row ≡ row → OfUnlawful (λ _. row.is_reset ≡ false) why
    → OfUnlawful (λ found. IsUnlawfulAfter mid.now row found ⊎ IsLateAfter plan.within mid.now row found) why
    → OfUnlawful (λ _. next ≡ now) why
    → GrowsTold trace (stretches course) (stretches mid) old now
    → OfUnlawful (StopsTelling trace plan rows before course old next) why
stops_there trace plan rows before i row course mid old now next (refusal.Unlawful found) inside here beat unlawful quiet told =
    record {
      stops = stops_at plan rows before i row found inside here beat mid unlawful;
      told = subst (λ text. GrowsTold trace (stretches course) (stretches mid) old text) (sym quiet) told;
    }
stops_there trace plan rows before i row course mid old now next refusal.Memory inside here beat unlawful quiet told = tt

pub wants_there : (wanted : Bool) (plan : SystemPlan) (rows before : List SeenRow) (i : ℕ) (row : SeenRow)
    → i < length rows → get_or rows i row ≡ row → (course : Stretches plan (reverse (take i rows) ++ before))
    → MayWantAfter wanted course.now row → MayWantAmong wanted plan rows before
wants_there wanted plan rows before i row inside here course wants = record {
  row = row;
  done = take i rows;
  left = drop (i + 1) rows;
  are = split rows i row inside here;
  course = course;
  is = wants;
}

-- ---- the rows of a moment

-- a row with as many lanes as its bus has
pub whole_row : (row : Row) (lanes : List ℕ) → length lanes ≡ bus_bytes row.bus → seen_row row lanes ≡ row_with row lanes
whole_row row lanes count = ap (λ l. row_with row l) (take_all (bus_bytes row.bus) lanes (omega (arith, count)))

-- it stands at a place
pub row_at : (rows : List SeenRow) (i : ℕ) (row : Row) (lanes : List ℕ) → length lanes ≡ bus_bytes row.bus
    → slice_get rows i ≡ Some (seen_row row lanes) → get_or rows i (row_with row lanes) ≡ row_with row lanes
row_at rows i row lanes count is =
    get_or_from_slice_get rows i (seen_row row lanes) (row_with row lanes) is ∙ whole_row row lanes count

-- it has the lanes of its link's bus, if it is a beat
pub lanes_at : (layout : Layout) (rows : List SeenRow) (i : ℕ) (row : Row) (lanes : List ℕ) → i < length rows
    → length lanes ≡ bus_bytes row.bus → slice_get rows i ≡ Some (seen_row row lanes) → All (HasLanes layout) rows
    → row.is_reset ≡ false → bus_of layout row.link ≤ length lanes
lanes_at layout rows i row lanes inside count is all =
    subst (HasLanes layout) (row_at rows i row lanes count is) (all i (row_with row lanes) inside)

-- a moment of one row
pub lanes_one : (layout : Layout) (row : SeenRow) → HasLanes layout row → All (HasLanes layout) (row ∷ [])
lanes_one layout row here = All-from_recursion (HasLanes layout) (row ∷ []) (here, tt)

-- the rows of a moment that took one more have their lanes, if that row has
pub lanes_more : (layout : Layout) (row : SeenRow) (rows next : List SeenRow) → IsPermutation (row ∷ rows) next
    → HasLanes layout row → All (HasLanes layout) rows → All (HasLanes layout) next
lanes_more layout row rows next same here all =
    All-permutation (HasLanes layout) (row ∷ rows) next same (All-append (HasLanes layout) (row ∷ []) rows (lanes_one layout row here) all)

-- the lanes that stand in the first places of a slice
pub lanes_of_row : (layout : Layout) (row : Row) (lanes : List ℕ) → bus_bytes row.bus ≤ length lanes
    → (row.is_reset ≡ false → bus_of layout row.link ≤ bus_bytes row.bus) → HasLanes layout (seen_row row lanes)
lanes_of_row layout row lanes count fits beat =
    let whole = length-take-le (bus_bytes row.bus) lanes count in
    let few = fits beat in
    omega (arith, whole, few)

-- a moment of one row
pub alone : (rows before : List SeenRow) (row : SeenRow) → length rows ≡ 1 → get_or rows 0 row ≡ row
    → reverse rows ++ before ≡ row ∷ before
alone [] before row one here = absurd (omega (arith, one))
alone (first ∷ []) before row one here = ap (λ r. r ∷ before) here
alone (first ∷ next ∷ rows) before row one here = absurd (omega (arith, one))

-- ---- answers

pub if_ok : {X E : Type 0} (r : Result X E) (P : X → Type 0) → ((x : X) → P x) → IfOk r P
if_ok (Ok x) P all = all x
if_ok (Err e) P all = tt

pub if_err : {X E P Q : Type 0} (r : Result X E) → (P → Q) → IfErr r (λ _. P) → IfErr r (λ _. Q)
if_err (Ok x) to is = tt
if_err (Err e) to is = to is

pub on_ok : {X E P Q : Type 0} (r : Result X E) → (P → Q) → IfOk r (λ _. P) → IfOk r (λ _. Q)
on_ok (Ok x) to is = to is
on_ok (Err e) to is = tt

-- ---- rows after rows

pub keeps_then : (system : SystemPlan) (before : List SeenRow) (course : Stretches system before) (mid crossed : List SeenRow)
    (trace other : Bool) (between tally : Tally) (old now new : List ℕ) → other ≡ trace
    → (one : KeepsOn system before course mid trace between old now)
    → KeepsOn system mid one.next crossed other tally now new → KeepsOn system before course crossed trace tally old new
keeps_then system before course mid crossed trace other between tally old now new same one two = record {
  next = two.next;
  kept = two.kept;
  told = grows_then trace (stretches course) (stretches one.next) (stretches two.next) old now new one.told
      (subst (λ t. GrowsTold t (stretches one.next) (stretches two.next) now new) same two.told);
}

-- the beat of one row more is kept after those of a course, and told
pub keeps_beat : (system : SystemPlan) (before : List SeenRow) (course : Stretches system before) (row : SeenRow) (trace : Bool)
    (tally : Tally) (old new : List ℕ) → row.is_reset ≡ false
    → Kept (record { system = system; ended = course.ended }) course.now.plan (row ∷ course.now.rows) tally
    → AppendsTold trace course.now.plan (sightings_of course.now.plan.layout course.now.rows)
    (sightings_of course.now.plan.layout (row ∷ course.now.rows)) old new
    → KeepsOn system before course (row ∷ before) trace tally old new
keeps_beat system before course row trace tally old new beat kept told = record {
  next = course_on system before row beat course;
  kept = kept;
  told = grows_on trace course.now.plan course.now.rows (row ∷ course.now.rows) course.ended old new told;
}

pub on_true : {E : Type 0} (r : Result Bool E) (P Q : Type 0) → (P → Q) → IfOk r (λ passed. passed ≡ true → P)
    → IfOk r (λ passed. passed ≡ true → Q)
on_true (Ok passed) P Q to is = λ yes. to (is yes)
on_true (Err e) P Q to is = tt

pub both_ok : {X E P Q R : Type 0} (r : Result X E) → (P → Q → R) → IfOk r (λ _. P) → IfOk r (λ _. Q) → IfOk r (λ _. R)
both_ok (Ok x) to one other = to one other
both_ok (Err e) to one other = tt

pub any_err : {X E P : Type 0} (r : Result X E) → P → IfErr r (λ _. P)
any_err (Ok x) is = tt
any_err (Err e) is = is
