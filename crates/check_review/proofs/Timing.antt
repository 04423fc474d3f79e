-- Whether replies come in time, row by row, and over the stretches of rows that crossed.
use Rattle.std.proofs.Common.{◌≡◌, ◌∙◌, ℕ, ◌+◌, ◌≤◌, All, Bool, true, false, cond, List, [], ◌∷◌, ◌++◌, Option, Some, None, reverse, refl, sym, ap, subst, arith}
use Rattle.std.specs.List.{AllByRecursion}
use Rattle.std.proofs.lemmas.List.Elements.{recursion_from_All}
use Rattle.check_sides.specs.Plan.{Plan}
use Rattle.check_rows.specs.Moment.{Cross, place_by, place_of_row}
use Rattle.check_rows.specs.Row.{SeenRow}
use Rattle.check_review.specs.declared.waiting.Waiting.{Waiting}
use Rattle.check_review.specs.Waiting.{first_late, is_late_reply, waiting_in}
use Rattle.check_review.proofs.Late.{late_waits, none_row, some_row}
use Rattle.check_start.specs.Loads.{SystemPlan}
use Rattle.check_review.specs.Order.{is_watched, watched}
use Rattle.check_review.specs.Stretches.{AreStretches, GoOnWith, Stretch, Stretches, stretches, watched_in}
use Rattle.check_review.specs.Times.{AreInTime, AreInTimeBefore, IsNoneLate, StretchesInTime, StretchesInTimeBefore, late_before, waits_after}
use Rattle.check_review.proofs.OneCourse.{one_course}
use Rattle.check_review.proofs.Ordered.{reversed_onto}
use Rattle.check_review.proofs.Stretching.{course_on}
use Rattle.check_review.proofs.Watched.{watched_one, watched_other}

-- ---- one row of a stretch more

module _ (limit time : ℕ) (plan : Plan) (row : SeenRow) (before : List SeenRow) (now : row.time ≡ time) where
  -- no request is late after a row of this time if none was before it
  pub none_more : IsNoneLate limit plan before time → IsNoneLate limit plan (row ∷ before) time
  none_more none = go (is_watched plan.layout row.sighting.link) refl
    where
      P : List SeenRow → Type 0
      P rows = first_late limit time (waiting_in plan rows) ≡ None

      go : (b : Bool) → is_watched plan.layout row.sighting.link ≡ b → IsNoneLate limit plan (row ∷ before) time
      go true is = subst P (sym (watched_one plan.layout row before is))
          (none_row limit time plan row (watched plan.layout before) now none)
      go false is = subst P (sym (watched_other plan.layout row before is)) none

  -- the first that was late before it still is, if the row is not watched or begins no late reply
  pub some_more : (first : Waiting) → first_late limit time (waiting_in plan (watched plan.layout before)) ≡ Some first
      → (is_watched plan.layout row.sighting.link ≡ true → is_late_reply limit plan (watched plan.layout before) row ≡ false)
      → first_late limit time (waiting_in plan (watched plan.layout (row ∷ before))) ≡ Some first
  some_more first some other = go (is_watched plan.layout row.sighting.link) refl
    where
      P : List SeenRow → Type 0
      P rows = first_late limit time (waiting_in plan rows) ≡ Some first

      go : (b : Bool) → is_watched plan.layout row.sighting.link ≡ b → P (watched plan.layout (row ∷ before))
      go true is = subst P (sym (watched_one plan.layout row before is))
          (some_row limit time plan row (watched plan.layout before) first now some (other is))
      go false is = subst P (sym (watched_other plan.layout row before is)) some

-- ---- stretches

abbrev pub AllInTime : ℕ → List Stretch → Type 0
AllInTime limit all = AllByRecursion (λ stretch. AreInTime limit stretch.plan stretch.rows) all

abbrev AllInTimeBefore : ℕ → ℕ → List Stretch → Type 0
AllInTimeBefore time limit all = AllByRecursion (λ stretch. AreInTimeBefore time limit stretch.plan stretch.rows) all

-- the rows of stretches are in time, and no request is late by this time after the last
pub record IsTimely (limit time : ℕ) (now : Stretch) (ended : List Stretch) : Type 0 where
  pub in_time : AllInTime limit (now ∷ ended)
  pub none : IsNoneLate limit now.plan now.rows time

-- one row of this time more
beat_timely : (limit time : ℕ) (system : SystemPlan) (row : SeenRow) (Before : Stretch → List Stretch → Type 0) (now : Stretch)
    (ended : List Stretch) → row.time ≡ time → GoOnWith false system row Before now ended
    → ((n : Stretch) (e : List Stretch) → Before n e → IsTimely limit time n e) → IsTimely limit time now ended
beat_timely limit time system row Before now ended at on rest =
    let before = rest (record now { rows = on.0 }) ended on.2 in
    let none : IsNoneLate limit now.plan on.0 row.time = subst (IsNoneLate limit now.plan on.0) (sym at) before.none in
    record {
      in_time = (
        subst (AreInTime limit now.plan) (sym on.1) (before.in_time.0, none),
        before.in_time.1,
      );
      none = subst (λ rows. IsNoneLate limit now.plan rows time) (sym on.1)
          (none_more limit time now.plan row on.0 at before.none);
    }

reset_timely : (limit time : ℕ) (system : SystemPlan) (row : SeenRow) (Before : Stretch → List Stretch → Type 0) (now : Stretch)
    (ended : List Stretch) → GoOnWith true system row Before now ended
    → ((n : Stretch) (e : List Stretch) → Before n e → AllInTime limit (n ∷ e)) → IsTimely limit time now ended
reset_timely limit time system row Before now ended on rest = record {
  in_time = (
    subst (AreInTime limit now.plan) (sym on.2) tt,
    subst (AllInTime limit) (sym on.3) (rest on.0 on.1 on.4),
  );
  none = subst (λ rows. IsNoneLate limit now.plan rows time) (sym on.2) refl;
}

one_timely : (is_reset : Bool) (limit time : ℕ) (system : SystemPlan) (row : SeenRow) (Before : Stretch → List Stretch → Type 0)
    (now : Stretch) (ended : List Stretch) → row.time ≡ time → GoOnWith is_reset system row Before now ended
    → ((n : Stretch) (e : List Stretch) → Before n e → IsTimely limit time n e) → IsTimely limit time now ended
one_timely false limit time system row Before now ended at on rest =
    beat_timely limit time system row Before now ended at on rest
one_timely true limit time system row Before now ended at on rest =
    reset_timely limit time system row Before now ended on (λ n e is. (rest n e is).in_time)

timely : (limit time : ℕ) (system : SystemPlan) (after before : List SeenRow)
    → AllByRecursion (λ row. row.time ≡ time) after
    → ((n : Stretch) (e : List Stretch) → AreStretches system before n e → IsTimely limit time n e)
    → (now : Stretch) (ended : List Stretch) → AreStretches system (after ++ before) now ended → IsTimely limit time now ended
timely limit time system [] before all start now ended are = start now ended are
timely limit time system (row ∷ after) before all start now ended are =
    one_timely row.is_reset limit time system row (AreStretches system (after ++ before)) now ended all.0 are
    (λ n e is. timely limit time system after before all.1 start n e is)

-- ---- the rows of a moment

all_reversed : (time : ℕ) (rows : List SeenRow) → AllByRecursion (λ row. row.time ≡ time) rows
    → (after : List SeenRow) → AllByRecursion (λ row. row.time ≡ time) after
    → AllByRecursion (λ row. row.time ≡ time) (reverse rows ++ after)
all_reversed time [] all after more = more
all_reversed time (row ∷ rows) all after more =
    subst (AllByRecursion (λ row. row.time ≡ time)) (sym (reversed_onto row rows after))
    (all_reversed time rows all.1 (row ∷ after) (all.0, more))

module _ (limit time : ℕ) (system : SystemPlan) (before : List SeenRow) (course : Stretches system before)
    (was : AllInTime limit (stretches course)) where
  same_before : (n : Stretch) (e : List Stretch) → AreStretches system before n e → AllInTime limit (n ∷ e)
  same_before n e are =
      let same = one_course system before course.now n course.ended e course.are are in
      subst (λ (l : List Stretch). AllInTime limit (n ∷ l)) same.1
      (subst (λ (s : Stretch). AllInTime limit (s ∷ course.ended)) same.0 was)

  none_before : IsNoneLate limit course.now.plan course.now.rows time → (n : Stretch) (e : List Stretch)
      → AreStretches system before n e → IsTimely limit time n e
  none_before none n e are = record {
    in_time = same_before n e are;
    none = subst (λ (s : Stretch). IsNoneLate limit s.plan s.rows time)
        (one_course system before course.now n course.ended e course.are are).0 none;
  }

  -- the first row of a moment is a reset, or no request is late before it
  first_row : (row : SeenRow) → row.time ≡ time
      → (row.is_reset ≡ false → IsNoneLate limit course.now.plan course.now.rows time)
      → (n : Stretch) (e : List Stretch) → AreStretches system (row ∷ before) n e → IsTimely limit time n e
  first_row row at none n e are = go row.is_reset refl are
    where
      go : (b : Bool) → row.is_reset ≡ b → GoOnWith b system row (AreStretches system before) n e → IsTimely limit time n e
      go true is on = reset_timely limit time system row (AreStretches system before) n e on same_before
      go false is on = beat_timely limit time system row (AreStretches system before) n e at on (none_before (none is))

  moment_timely : (rows : List SeenRow) → AllByRecursion (λ row. row.time ≡ time) rows
      → (late_before (waits_after (Some limit) course.now.plan (watched_in course.now)) rows ≡ None)
      → (now : Stretch) (ended : List Stretch) → AreStretches system (reverse rows ++ before) now ended
      → AllInTime limit (now ∷ ended)
  moment_timely [] all none now ended are = same_before now ended are
  moment_timely (row ∷ rows) all none now ended are =
      (timely limit time system (reverse rows) (row ∷ before)
      (subst (AllByRecursion (λ r. r.time ≡ time)) (no_more (reverse rows)) (all_reversed time rows all.1 [] tt))
      (first_row row all.0 unless)
      now ended
      (subst (λ l. AreStretches system l now ended) (reversed_onto row rows before) are)).in_time
    where
      no_more : (l : List SeenRow) → l ++ [] ≡ l
      no_more [] = refl
      no_more (x ∷ l) = ap (λ k. x ∷ k) (no_more l)

      unless : row.is_reset ≡ false → IsNoneLate limit course.now.plan course.now.rows time
      unless beat =
          subst (IsNoneLate limit course.now.plan course.now.rows) all.0
          (subst (λ b. cond b None (first_late limit row.time (waiting_in course.now.plan (watched_in course.now))) ≡ None)
          beat none)

-- the rows of a moment are in time if no request is late before them
pub in_time_after : (within : Option ℕ) (time : ℕ) (system : SystemPlan) (before : List SeenRow)
    (course : Stretches system before) (rows : List SeenRow) → StretchesInTime within (stretches course)
    → All (λ row. row.time ≡ time) rows
    → late_before (waits_after within course.now.plan (watched_in course.now)) rows ≡ None
    → (next : Stretches system (reverse rows ++ before)) → StretchesInTime within (stretches next)
in_time_after None time system before course rows was all none next = tt
in_time_after (Some limit) time system before course rows was all none next =
    moment_timely limit time system before course was rows (recursion_from_All (λ row. row.time ≡ time) rows all) none next.now
    next.ended next.are

-- no row is out of time
pub in_time_none : (within : Option ℕ) (plan : Plan) → StretchesInTime within (record { plan = plan; rows = [] } ∷ [])
in_time_none None plan = tt
in_time_none (Some limit) plan = (tt, tt)

-- ---- earlier rows

earlier_rows : (limit time : ℕ) (plan : Plan) (rows : List SeenRow) → AreInTime limit plan rows
    → AreInTimeBefore time limit plan rows
earlier_rows limit time plan [] are = tt
earlier_rows limit time plan (row ∷ rows) are = (earlier_rows limit time plan rows are.0, λ lt. are.1)

earlier_stretches : (limit time : ℕ) (all : List Stretch) → AllInTime limit all → AllInTimeBefore time limit all
earlier_stretches limit time [] are = tt
earlier_stretches limit time (stretch ∷ all) are =
    (earlier_rows limit time stretch.plan stretch.rows are.0, earlier_stretches limit time all are.1)

before_one : (is_reset : Bool) (limit time : ℕ) (system : SystemPlan) (row : SeenRow) (Before : Stretch → List Stretch → Type 0)
    (now : Stretch) (ended : List Stretch) → row.time ≡ time → GoOnWith is_reset system row Before now ended
    → ((n : Stretch) (e : List Stretch) → Before n e → AllInTimeBefore time limit (n ∷ e))
    → AllInTimeBefore time limit (now ∷ ended)
before_one false limit time system row Before now ended at on rest =
    let before = rest (record now { rows = on.0 }) ended on.2 in (
      subst (AreInTimeBefore time limit now.plan) (sym on.1) (before.0, λ lt. absurd (omega (arith, at, lt))),
      before.1,
    )
before_one true limit time system row Before now ended at on rest = (
  subst (AreInTimeBefore time limit now.plan) (sym on.2) tt,
  subst (AllInTimeBefore time limit) (sym on.3) (rest on.0 on.1 on.4),
)

before_all : (limit time : ℕ) (system : SystemPlan) (after before : List SeenRow)
    → AllByRecursion (λ row. row.time ≡ time) after
    → ((n : Stretch) (e : List Stretch) → AreStretches system before n e → AllInTimeBefore time limit (n ∷ e))
    → (now : Stretch) (ended : List Stretch) → AreStretches system (after ++ before) now ended
    → AllInTimeBefore time limit (now ∷ ended)
before_all limit time system [] before all start now ended are = start now ended are
before_all limit time system (row ∷ after) before all start now ended are =
    before_one row.is_reset limit time system row (AreStretches system (after ++ before)) now ended all.0 are
    (λ n e is. before_all limit time system after before all.1 start n e is)

-- whatever rows of this time have crossed, those of earlier times are in time
pub in_time_before : (within : Option ℕ) (time : ℕ) (system : SystemPlan) (before : List SeenRow)
    (course : Stretches system before) (rows : List SeenRow) → StretchesInTime within (stretches course)
    → AllByRecursion (λ row. row.time ≡ time) rows → (next : Stretches system (reverse rows ++ before))
    → StretchesInTimeBefore time within (stretches next)
in_time_before None time system before course rows was all next = tt
in_time_before (Some limit) time system before course rows was all next =
    before_all limit time system (reverse rows) before
    (subst (AllByRecursion (λ row. row.time ≡ time)) (no_more (reverse rows)) (all_reversed time rows all [] tt))
    (λ n e are. earlier_stretches limit time (n ∷ e) (same_before limit time system before course was n e are)) next.now
    next.ended next.are
  where
    no_more : (l : List SeenRow) → l ++ [] ≡ l
    no_more [] = refl
    no_more (x ∷ l) = ap (λ k. x ∷ k) (no_more l)

-- ---- the rows before are in time

-- some rows have a course that is in time
abbrev pub HaveInTime : ℕ → (Stretch → List Stretch → Type 0) → Type 0
HaveInTime limit Are = (now : Stretch) × (ended : List Stretch) × Are now ended × AllInTime limit (now ∷ ended)

in_time_by : (is_reset : Bool) (limit : ℕ) (system : SystemPlan) (row : SeenRow) (Before : Stretch → List Stretch → Type 0)
    (now : Stretch) (ended : List Stretch) → GoOnWith is_reset system row Before now ended → AllInTime limit (now ∷ ended)
    → HaveInTime limit Before
in_time_by false limit system row Before now ended on are = (
  record now { rows = on.0 },
  ended,
  on.2,
  ((subst (AreInTime limit now.plan) on.1 are.0).0, are.1),
)
in_time_by true limit system row Before now ended on are = (on.0, on.1, on.4, subst (AllInTime limit) on.3 are.1)

pub in_time_rest : (limit : ℕ) (system : SystemPlan) (after before : List SeenRow) (now : Stretch) (ended : List Stretch)
    → AreStretches system (after ++ before) now ended → AllInTime limit (now ∷ ended)
    → HaveInTime limit (AreStretches system before)
in_time_rest limit system [] before now ended are in_time = (now, ended, are, in_time)
in_time_rest limit system (row ∷ after) before now ended are in_time =
    let one = in_time_by row.is_reset limit system row (AreStretches system (after ++ before)) now ended are in_time in
    in_time_rest limit system after before one.0 one.1 one.2 one.3

-- ---- rows that are late

-- a row begins a late reply after a course, so those of a longer one are not in time
pub late_is_out : (limit : ℕ) (system : SystemPlan) (after before : List SeenRow) (row : SeenRow) (course : Stretches system before)
    (now : Stretch) (ended : List Stretch) → AreStretches system (after ++ row ∷ before) now ended
    → AllInTime limit (now ∷ ended) → row.is_reset ≡ false
    → is_late_reply limit course.now.plan (watched_in course.now) row ≡ true → ⊥
late_is_out limit system after before row course now ended are in_time beat late =
    let there = in_time_rest limit system after (row ∷ before) now ended are in_time in
    let on = subst (λ b. GoOnWith b system row (AreStretches system before) there.0 there.1) beat there.2 in
    let here = one_course system before (record there.0 { rows = on.0 }) course.now there.1 course.ended on.2 course.are in
    let none : IsNoneLate limit there.0.plan on.0 row.time =
    (subst (AreInTime limit there.0.plan) on.1 there.3.0).1 in
    late_waits limit course.now.plan row (watched_in course.now) late
    (subst (λ (s : Stretch). IsNoneLate limit s.plan s.rows row.time) here.0 none)

-- a request is late after the last row of a course
pub unanswered_is_out : (limit : ℕ) (system : SystemPlan) (after before : List SeenRow) (course : Stretches system before)
    (now : Stretch) (ended : List Stretch) → AreStretches system (after ++ before) now ended
    → AllInTime limit (now ∷ ended) → (row : SeenRow) (rows : List SeenRow) → course.now.rows ≡ row ∷ rows → (first : Waiting)
    → first_late limit row.time (waiting_in course.now.plan (watched_in course.now)) ≡ Some first → ⊥
unanswered_is_out limit system after before course now ended are in_time row rows are_rows first late =
    let there = in_time_rest limit system after before now ended are in_time in
    let here = one_course system before there.0 course.now there.1 course.ended there.2 course.are in
    let in_time_here : AreInTime limit course.now.plan course.now.rows =
    subst (λ (s : Stretch). AreInTime limit s.plan s.rows) here.0 there.3.0 in
    let both = subst (AreInTime limit course.now.plan) are_rows in_time_here in
    let none : IsNoneLate limit course.now.plan (row ∷ rows) row.time =
    none_more limit row.time course.now.plan row rows refl both.1 in
    let same : IsNoneLate limit course.now.plan course.now.rows row.time =
    subst (λ l. IsNoneLate limit course.now.plan l row.time) (sym are_rows) none in
    absurd (some_none (sym late ∙ same))
  where
    some_none : Some first ≡ None → ⊥
    some_none is = cc

-- ---- a moment before which a request is late

-- what it means that this request is late before the rows of a moment
pub record IsLateBefore (within : Option ℕ) (plan : Plan) (before rows : List SeenRow) (first : Waiting) : Type 0 where
  pub limit : ℕ
  pub asked : within ≡ Some limit
  pub row : SeenRow
  pub rest : List SeenRow
  pub are : rows ≡ row ∷ rest
  pub beat : row.is_reset ≡ false
  pub late : first_late limit row.time (waiting_in plan before) ≡ Some first

pub late_means : (within : Option ℕ) (plan : Plan) (before rows : List SeenRow) (first : Waiting)
    → late_before (waits_after within plan before) rows ≡ Some first → IsLateBefore within plan before rows first
late_means None plan before rows first is = absurd (cc)
late_means (Some limit) plan before [] first is = absurd (cc)
late_means (Some limit) plan before (row ∷ rows) first is = go row.is_reset refl is
  where
    go : (b : Bool) → row.is_reset ≡ b → cond b None (first_late limit row.time (waiting_in plan before)) ≡ Some first
        → IsLateBefore (Some limit) plan before (row ∷ rows) first
    go true reset is = absurd (cc)
    go false beat is = record {
      limit = limit;
      asked = refl;
      row = row;
      rest = rows;
      are = refl;
      beat = beat;
      late = is;
    }

-- a row that crosses after another of its time is no reset
placed_beat : (b : Bool) (row : SeenRow) → row.is_reset ≡ b → 1 ≤ place_of_row row → row.is_reset ≡ false
placed_beat true row is above =
    let none : place_of_row row ≡ 0 = ap (λ b. place_by b row.sighting.link row.sighting.beat) is in
    absurd (omega (arith, none, above))
placed_beat false row is above = is

beats_above : (low : ℕ) (rows : List SeenRow) → 1 ≤ low → Cross low rows → AllByRecursion (λ row. row.is_reset ≡ false) rows
unfolding Cross
beats_above low [] positive cross = tt
beats_above low (row ∷ rows) positive cross =
    let above = cross.0 in (
      placed_beat row.is_reset row refl (omega (arith, positive, above)),
      beats_above (place_of_row row + 1) rows (omega arith) cross.1,
    )

-- if the first row of a moment is no reset, none is
pub all_beats : (row : SeenRow) (rows : List SeenRow) → Cross 0 (row ∷ rows) → row.is_reset ≡ false
    → AllByRecursion (λ r. r.is_reset ≡ false) (row ∷ rows)
unfolding Cross
all_beats row rows cross beat = (beat, beats_above (place_of_row row + 1) rows (omega arith) cross.1)

-- the stretch that goes on with one row more
pub next_now : (system : SystemPlan) (before : List SeenRow) (row : SeenRow) (course : Stretches system before)
    (next : Stretches system (row ∷ before)) → row.is_reset ≡ false
    → next.now ≡ record { plan = course.now.plan; rows = row ∷ course.now.rows }
next_now system before row course next beat =
    let longer = course_on system before row beat course in
    (one_course system (row ∷ before) next.now longer.now next.ended longer.ended next.are longer.are).0

-- a course has the last row of those that crossed, if that is no reset
pub last_row : (system : SystemPlan) (row : SeenRow) (rows : List SeenRow) (course : Stretches system (row ∷ rows))
    → row.is_reset ≡ false → (others : List SeenRow) × (course.now.rows ≡ row ∷ others)
last_row system row rows course beat =
    let on = subst (λ b. GoOnWith b system row (AreStretches system rows) course.now course.ended) beat course.are in
    (on.0, on.1)
