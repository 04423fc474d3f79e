-- One row of a file more.
use Rattle.std.proofs.Common.{◌≡◌, ◌∙◌, ℕ, ◌⊎◌, inl, inr, Option, Some, None, append-nil, append_assoc, length-append, IfSome, ◌+◌, ◌-◌, ◌%◌, ◌^◌, ◌<◌, ◌≤◌, List, [], ◌∷◌, ◌++◌, Bool, false, reverse, length, All, Contains, refl, sym, ap, subst, arith}
use Rattle.std.specs.Prelude.{option_to_list}
use Rattle.std.specs.List.{AllByRecursion}
use Rattle.std.specs.List.Sorted.{IsPermutation}
use Rattle.std.proofs.lemmas.List.{length_push}
use Rattle.std.proofs.lemmas.List.Elements.{All-append, All-contains, All-weaker, All-from_recursion, recursion_from_All, Contains-append_left}
use Rattle.std.proofs.lemmas.List.Sorted.{IsPermutation-refl, IsPermutation-sym, IsPermutation-trans, IsPermutation-cons, IsPermutation-append, IsPermutation-reverse, IsPermutation-push_more, All-permutation, Contains-permutation, length_permutation, IsNonDecreasingBy-push, IsNonDecreasingBy-short}
use Rattle.check_start.specs.Loads.{AreLoadsOf, SystemPlan}
use Rattle.check_turns.specs.View.{KeepsOrdered}
use Rattle.check_turns.specs.Lawful.{IsLawfulInOrder}
use Rattle.check_rows.specs.Moment.{Moment, IsMoment, Takes, HasFault}
use Rattle.check_rows.specs.declared.fault.RowFault.{RowFault}
use Rattle.check_rows.specs.declared.fault.RowFault.TheVariants as fault
use Rattle.check_rows.specs.Row.{SeenRow}
use Rattle.check_unanswered.specs.View.{Holds}
use Rattle.check_coverage.specs.View.{Covers}
use Rattle.check_review.specs.declared.stop.Refusal.{Refusal}
use Rattle.check_review.specs.declared.stop.Refusal.TheVariants as refusal
use Rattle.check_review.specs.declared.stop.Stop.TheVariants as stop
use Rattle.check_review.specs.declared.stop.Unlawful.{Unlawful}
use Rattle.check_review.specs.declared.tally.Tally.{Tally}
use Rattle.check_review.specs.Waiting.{first_late, waiting_in}
use Rattle.check_review.specs.Stretches.{AreStretches, GoOnWith, IsLawfulStretch, Stretches, Stretch, stretches, watched_in}
use Rattle.check_review.specs.Order.{CrossesBefore, IsCrossing, IsLater, NeverFalls, HasRowFault, sightings_of}
use Rattle.check_review.specs.Times.{StretchesInTime, StretchesInTimeBefore, late_before, waits_after}
use Rattle.check_review.specs.Told.{IsToldOfAll}
use Rattle.check_review.specs.View.{HasTold, JudgeView, Judges, KeepsOn, KeptIn, TellsOn, TellsStop, is_traced}
use Rattle.check_review.specs.Verdict.{IsBreach, IsLateAfter, IsLawfulFile, IsFirstUnlawful, IsUnanswered, IsUnlawfulAfter, IsStop, IsToldBefore, IsToldEarlier, IsToldFile, IsToldPart, MayWantAmong, MayWantMemory, OfUnlawful, StopsAt, StopsTelling, stop_of}
use Rattle.check_review.proofs.OneCourse.{lawful_before, one_course}
use Rattle.check_review.proofs.Stretching.{course_none}
use Rattle.check_review.proofs.Timing.{AllInTime, in_time_after, in_time_before, in_time_none, late_is_out, unanswered_is_out}
use Rattle.check_review.proofs.Watched.{lawful_rest, seen_one}
use Rattle.check_review.proofs.Ordered.{all_weaker, in_order_rest, in_order_onto, reversed_middle}
use Rattle.check_review.proofs.Unique.{crossing_is_unique}

-- ---- none yet

pub judges_none : (plan : SystemPlan) (judge : JudgeView) → judge.moment ≡ record { time = 0; rows = [] } → judge.rows ≡ 0
    → judge.tally.requests ≡ 0 → judge.tally.answered ≡ 0 → KeepsOrdered plan.begins [] judge.tally.watch
    → AreLoadsOf plan judge.tally.loads → IfSome judge.tally.pending (Holds plan.begins [])
    → IfSome judge.tally.coverage (Covers plan.begins [] []) → judge.tally.waits ≡ waits_after plan.within plan.begins []
    → Judges plan [] judge
judges_none plan judge fresh rows requests answered keeps loads pending covers waits =
    let none : judge.moment.rows ≡ [] = ap (λ (m : Moment). m.rows) fresh in
    let P : List SeenRow → Type 0 = λ l. IsCrossing [] (reverse l ++ []) in
    record {
      before = [];
      crossing = subst P (sym none) (record { same = IsPermutation-refl []; in_order = tt });
      course = course_none plan;
      now = (let All_now : List SeenRow → Type 0 = λ l. AllByRecursion (λ row. row.time ≡ judge.moment.time) l in
          subst All_now (sym none) tt);
      earlier = tt;
      begun = λ is. ap (λ (m : Moment). m.time) fresh;
      never_falls = IsNonDecreasingBy-short (λ (row : SeenRow). row.time) [] (omega arith);
      kept = record {
        tallied = record { keeps = keeps; loads = loads; requests = requests; answered = answered; covers = covers };
        pending = pending;
        waits = waits;
      };
      in_time = in_time_none plan.within plan.begins;
      rows = rows;
    }

-- ---- what is known of the file

-- the rows of the moment, as they stand among those that crossed
turned : (rows : List SeenRow) (P : SeenRow → Type 0) → All P rows → All P (reverse rows)
turned rows P all = All-permutation P rows (reverse rows) (IsPermutation-reverse rows) all

-- the rows of a file are of the moment's time or earlier
latest : (moment : Moment) (file before : List SeenRow) → IsMoment moment
    → IsPermutation file (reverse moment.rows ++ before)
    → AllByRecursion (λ row. row.time < moment.time) before → All (λ row. row.time ≤ moment.time) file
latest moment file before is same earlier =
    let P : SeenRow → Type 0 = λ row. row.time ≤ moment.time in
    let now : All P moment.rows = λ k d inside. let e = is.at_time k d inside in omega (arith, e) in
    let past : All P before =
    All-weaker (λ row. row.time < moment.time) P (λ row lt. omega (arith, lt)) before
    (All-from_recursion (λ row. row.time < moment.time) before earlier) in
    All-permutation P (reverse moment.rows ++ before) file (IsPermutation-sym file _ same)
    (All-append P (reverse moment.rows) before (turned moment.rows P now) past)

-- a row of the moment is one of the file
in_file : (moment : Moment) (file before : List SeenRow) (row : SeenRow) → IsPermutation file (reverse moment.rows ++ before)
    → Contains moment.rows row → Contains file row
in_file moment file before row same there =
    Contains-permutation (reverse moment.rows ++ before) file row (IsPermutation-sym file _ same)
    (Contains-append_left (reverse moment.rows) before row
    (Contains-permutation moment.rows (reverse moment.rows) row (IsPermutation-reverse moment.rows) there))

counted_more : (n : ℕ) → (n % 2 ^ 64 + 1) % 2 ^ 64 ≡ (n + 1) % 2 ^ 64
counted_more n = omega arith

row_more : (file : List SeenRow) (row : SeenRow) (count next : ℕ) → count ≡ length file % 2 ^ 64 → next ≡ (count + 1) % 2 ^ 64
    → next ≡ length (file ++ row ∷ []) % 2 ^ 64
row_more file row count next was is =
    is ∙ ap (λ n. (n + 1) % 2 ^ 64) was ∙ counted_more (length file) ∙ ap (λ n. n % 2 ^ 64) (sym (length_push file row))

falls_never : (file : List SeenRow) (row : SeenRow) (time : ℕ) → NeverFalls file → All (λ r. r.time ≤ time) file
    → time ≤ row.time → NeverFalls (file ++ row ∷ [])
falls_never file row time never all le =
    IsNonDecreasingBy-push (λ (r : SeenRow). r.time) file row never
    (λ d some. let last = all (length file - 1) d (omega (arith, some)) in omega (arith, last, le))

-- ---- a row of the moment's time

pub record IsRowMore (old new : JudgeView) : Type 0 where
  pub tally : new.tally ≡ old.tally
  pub was : IsMoment old.moment
  pub moment : IsMoment new.moment
  pub rows : new.rows ≡ (old.rows + 1) % 2 ^ 64

no_rows_left : (row : SeenRow) (rows next : List SeenRow) → IsPermutation (row ∷ rows) next → next ≡ [] → ⊥
no_rows_left row rows next same none =
    let long = length_permutation (row ∷ rows) next same in
    let short = ap length none in
    omega (arith, long, short)

put_same : (row : SeenRow) (rows next before : List SeenRow) → IsPermutation (row ∷ rows) next
    → IsPermutation (row ∷ (reverse rows ++ before)) (reverse next ++ before)
put_same row rows next before same =
    let turned_back = IsPermutation-cons row (reverse rows) rows
    (IsPermutation-sym rows (reverse rows) (IsPermutation-reverse rows)) in
    let all = IsPermutation-trans (row ∷ reverse rows) (row ∷ rows) (reverse next) turned_back
    (IsPermutation-trans (row ∷ rows) next (reverse next) same (IsPermutation-reverse next)) in
    IsPermutation-append (row ∷ reverse rows) (reverse next) before before all (IsPermutation-refl before)

-- the rows of earlier times are the same
pub judges_now : (plan : SystemPlan) (file : List SeenRow) (row : SeenRow) (old new : JudgeView) (judges : Judges plan file old)
    → Takes old.moment row new.moment → IsRowMore old new
    → Judges plan (file ++ row ∷ []) new
judges_now plan file row old new judges takes more =
    let earlier : AllByRecursion (λ r. r.time < new.moment.time) judges.before =
    all_weaker (λ r. r.time < old.moment.time) (λ r. r.time < new.moment.time)
    (λ r lt. let e = takes.time in omega (arith, lt, e)) judges.before judges.earlier in
    record {
      before = judges.before;
      crossing = record {
        same = IsPermutation-push_more file (reverse old.moment.rows ++ judges.before)
            (reverse new.moment.rows ++ judges.before) row judges.crossing.same
            (put_same row old.moment.rows new.moment.rows judges.before takes.rows);
        in_order = in_order_onto new.moment.time new.moment.rows judges.before more.moment.in_order more.moment.at_time earlier
            (in_order_rest (reverse old.moment.rows) judges.before judges.crossing.in_order);
      };
      course = judges.course;
      now = recursion_from_All (λ r. r.time ≡ new.moment.time) new.moment.rows more.moment.at_time;
      earlier = earlier;
      begun = λ none. absurd (no_rows_left row old.moment.rows new.moment.rows takes.rows none);
      never_falls = falls_never file row old.moment.time judges.never_falls
          (latest old.moment file judges.before more.was judges.crossing.same judges.earlier)
          (let e = takes.now in omega (arith, e));
      kept = (let P : Tally → Type 0 = λ t. KeptIn plan judges.before judges.course t in
          subst P (sym more.tally) judges.kept);
      in_time = judges.in_time;
      rows = row_more file row old.rows new.rows judges.rows more.rows;
    }

-- the rows of the moment at hand are in time if no request is late before them
pub still_in_time : (plan : SystemPlan) (file : List SeenRow) (judge : JudgeView) (judges : Judges plan file judge)
    → IsMoment judge.moment → late_before judge.tally.waits judge.moment.rows ≡ None
    → (next : Stretches plan (reverse judge.moment.rows ++ judges.before)) → StretchesInTime plan.within (stretches next)
still_in_time plan file judge judges moment none next =
    in_time_after plan.within judge.moment.time plan judges.before judges.course judge.moment.rows judges.in_time
    moment.at_time (subst (λ waits. late_before waits judge.moment.rows ≡ None) judges.kept.waits none) next

-- ---- a row of a later time

-- the row begins a moment, and those before it are judged
pub record IsLaterRow (row : SeenRow) (old new : JudgeView) : Type 0 where
  pub was : IsMoment old.moment
  pub later : old.moment.time < row.time
  pub moment : new.moment ≡ record { time = row.time; rows = row ∷ [] }
  pub rows : new.rows ≡ (old.rows + 1) % 2 ^ 64

pub later_all : (moment : Moment) (file before : List SeenRow) (row : SeenRow) → IsMoment moment
    → IsPermutation file (reverse moment.rows ++ before)
    → AllByRecursion (λ r. r.time < moment.time) before → moment.time < row.time → All (λ r. r.time < row.time) file
later_all moment file before row is same earlier later =
    All-weaker (λ r. r.time ≤ moment.time) (λ r. r.time < row.time) (λ r le. omega (arith, le, later)) file
    (latest moment file before is same earlier)

pub judges_later : (plan : SystemPlan) (file : List SeenRow) (row : SeenRow) (old new : JudgeView) (judges : Judges plan file old)
    → IsLaterRow row old new → late_before old.tally.waits old.moment.rows ≡ None
    → (course : Stretches plan (reverse old.moment.rows ++ judges.before))
    → KeptIn plan (reverse old.moment.rows ++ judges.before) course new.tally → Judges plan (file ++ row ∷ []) new
judges_later plan file row old new judges more none course kept =
    let crossed : List SeenRow = reverse old.moment.rows ++ judges.before in
    let all_file : All (λ r. r.time < row.time) file =
    later_all old.moment file judges.before row more.was judges.crossing.same judges.earlier more.later in
    let all : AllByRecursion (λ r. r.time < row.time) crossed =
    recursion_from_All (λ r. r.time < row.time) crossed
    (All-permutation (λ r. r.time < row.time) file crossed judges.crossing.same all_file) in
    let rows_is : new.moment.rows ≡ row ∷ [] = ap (λ (m : Moment). m.rows) more.moment in
    let time_is : new.moment.time ≡ row.time = ap (λ (m : Moment). m.time) more.moment in
    let Crossing : List SeenRow → Type 0 = λ l. IsCrossing (file ++ row ∷ []) (reverse l ++ crossed) in
    let Earlier : ℕ → Type 0 = λ t. AllByRecursion (λ r. r.time < t) crossed in
    let Now : List SeenRow → Type 0 = λ l. AllByRecursion (λ r. r.time ≡ new.moment.time) l in
    record {
      before = crossed;
      crossing = subst Crossing (sym rows_is) (record {
        same = IsPermutation-push_more file crossed (row ∷ crossed) row judges.crossing.same
            (IsPermutation-refl (row ∷ crossed));
        in_order = (
          all_weaker (λ r. r.time < row.time) (λ r. CrossesBefore r row) (λ r lt. inl lt) crossed all,
          judges.crossing.in_order,
        );
      });
      course = course;
      now = subst Now (sym rows_is) (sym time_is, tt);
      earlier = subst Earlier (sym time_is) all;
      begun = λ none. absurd (cc);
      never_falls = falls_never file row old.moment.time judges.never_falls
          (latest old.moment file judges.before more.was judges.crossing.same judges.earlier)
          (let lt = more.later in omega (arith, lt));
      kept = kept;
      in_time = still_in_time plan file old judges more.was none course;
      rows = row_more file row old.rows new.rows judges.rows more.rows;
    }

-- ---- a row that is refused

earlier_row : (moment : Moment) (file before : List SeenRow) (row : SeenRow) → IsMoment moment
    → IsPermutation file (reverse moment.rows ++ before)
    → (moment.rows ≡ [] → moment.time ≡ 0) → row.time < moment.time → HasRowFault file row fault.TimeFalls
earlier_row moment file before row is same begun lt = go moment.rows refl
  where
    go : (rows : List SeenRow) → moment.rows ≡ rows → HasRowFault file row fault.TimeFalls
    go [] none = let start = begun none in absurd (omega (arith, lt, start))
    go (first ∷ more) rows_are =
        let P : List SeenRow → Type 0 = λ l. Contains l first in
        let there : Contains moment.rows first = subst P (sym rows_are) (0, omega arith, refl) in
        let now = All-contains (λ r. r.time ≡ moment.time) moment.rows first is.at_time there in
        (first, in_file moment file before first same there, omega (arith, lt, now))

pub fault_of : (plan : SystemPlan) (file : List SeenRow) (row : SeenRow) (judge : JudgeView) (f : RowFault) → IsMoment judge.moment
    → Judges plan file judge → HasFault judge.moment row f
    → HasRowFault file row f
fault_of plan file row judge fault.TimeFalls moment judges has =
    earlier_row judge.moment file judges.before row moment judges.crossing.same judges.begun has
fault_of plan file row judge fault.TwoBeats moment judges has =
    let other = has.1.0 in
    let there = has.1.1 in (
      other,
      in_file judge.moment file judges.before other judges.crossing.same there,
      All-contains (λ r. r.time ≡ judge.moment.time) judge.moment.rows other moment.at_time there ∙ sym has.0,
      has.1.2,
    )
fault_of plan file row judge fault.Cut moment judges has = has
fault_of plan file row judge fault.Columns moment judges has = has
fault_of plan file row judge fault.Number moment judges has = has
fault_of plan file row judge fault.Range moment judges has = has
fault_of plan file row judge fault.Link moment judges has = has
fault_of plan file row judge fault.Channel moment judges has = has

-- ---- rows that are not lawful

-- the rows of a moment: some, the next one or none, and others
pub crossed_so : (next : Option SeenRow) (rows done left before : List SeenRow) → rows ≡ done ++ (option_to_list next ++ left)
    → (next ≡ None → left ≡ [])
    → reverse rows ++ before ≡ reverse left ++ (option_to_list next ++ (reverse done ++ before))
crossed_so (Some row) rows done left before are last =
    ap (λ l. reverse l ++ before) are ∙ reversed_middle done left before row
crossed_so None rows done left before are last =
    let none : left ≡ [] = last refl in
    ap (λ l. reverse l ++ before) (are ∙ ap (λ l. done ++ l) none ∙ append-nil done)
    ∙ ap (λ l. reverse l ++ (reverse done ++ before)) (sym none)

-- those that are judged are of the moment's time
pub done_now : (time : ℕ) (done left rows : List SeenRow) → rows ≡ done ++ left → AllByRecursion (λ row. row.time ≡ time) rows
    → AllByRecursion (λ row. row.time ≡ time) done
done_now time [] left rows are all = tt
done_now time (row ∷ done) left rows are all =
    let both = subst (AllByRecursion (λ r. r.time ≡ time)) are all in
    (both.0, done_now time done left (done ++ left) refl both.1)

abbrev pub first_unlawful : (plan : SystemPlan) (file : List SeenRow) (judge : JudgeView) (found : Unlawful)
    (judges : Judges plan file judge) → StopsAt plan judge.moment.rows judges.before found → IsFirstUnlawful plan file found
first_unlawful plan file judge found judges stops =
    let P : List SeenRow → Type 0 = λ l. IsCrossing file l in
    let now : stops.some.time ≡ judge.moment.time =
    All-contains (λ r. r.time ≡ judge.moment.time) judge.moment.rows stops.some
    (All-from_recursion (λ r. r.time ≡ judge.moment.time) judge.moment.rows judges.now) stops.there in
    record {
      next = stops.next;
      time = stops.some.time;
      after = reverse stops.left;
      before = reverse stops.done ++ judges.before;
      crossing = subst P (crossed_so stops.next judge.moment.rows stops.done stops.left judges.before stops.are stops.last)
          judges.crossing;
      course = stops.course;
      in_time = subst (λ t. StretchesInTimeBefore t plan.within (stretches stops.course)) (sym now)
          (in_time_before plan.within judge.moment.time plan judges.before judges.course stops.done judges.in_time
          (done_now judge.moment.time stops.done (option_to_list stops.next ++ stops.left) judge.moment.rows stops.are
          judges.now) stops.course);
      is = stops.is;
      last = λ none. ap reverse (stops.last none);
    }

-- memory may be refused to one of the rows of the moment, and so to a row of the file
pub may_want : (wants : Bool) (plan : SystemPlan) (file : List SeenRow) (judge : JudgeView) (judges : Judges plan file judge)
    → MayWantAmong wants plan judge.moment.rows judges.before → MayWantMemory wants plan file
may_want wants plan file judge judges want =
    let P : List SeenRow → Type 0 = λ l. IsCrossing file l in
    let is : reverse judge.moment.rows ++ judges.before ≡ reverse want.left
    ++ (want.row ∷ (reverse want.done ++ judges.before)) =
    ap (λ l. reverse l ++ judges.before) want.are ∙ reversed_middle want.done want.left judges.before want.row in
    record {
      row = want.row;
      after = reverse want.left;
      before = reverse want.done ++ judges.before;
      crossing = subst P is judges.crossing;
      course = want.course;
      is = want.is;
    }

-- ---- a file that has such a row is not lawful

module _ (plan : SystemPlan) (file after before : List SeenRow) (course : Stretches plan before) (found : Unlawful)
    (whole : IsLawfulFile plan file) where
  -- the beat of a row is not lawful
  beat_unlawful : (row : SeenRow) → IsCrossing file (after ++ row ∷ before) → row.is_reset ≡ false
      → IsUnlawfulAfter course.now row found → ⊥
  beat_unlawful row crossing beat is =
      let same : whole.crossed ≡ after ++ row ∷ before =
      crossing_is_unique file whole.crossed (after ++ row ∷ before) whole.crossing crossing in
      let are = subst (λ l. AreStretches plan l whole.course.now whole.course.ended) same whole.course.are in
      let last = lawful_before plan after (row ∷ before) whole.course.now whole.course.ended are whole.lawful in
      let on = subst (λ b. GoOnWith b plan row (AreStretches plan before) last.0 last.1) beat last.2 in
      let now : Stretch = record last.0 { rows = on.0 } in
      let here = one_course plan before now course.now last.1 course.ended on.2 course.are in
      let unlawful : IsUnlawfulAfter now row found =
      subst (λ (s : Stretch). IsUnlawfulAfter s row found) (sym here.0) is in
      unlawful.unlawful (subst (IsLawfulInOrder now.plan) (seen_one now.plan.layout row on.0 unlawful.watched)
      (subst (λ l. IsLawfulInOrder now.plan (sightings_of now.plan.layout l)) on.1 last.3))

  -- what is in time by the limit
  in_time_by_limit : (limit : ℕ) → plan.within ≡ Some limit → AllInTime limit (stretches whole.course)
  in_time_by_limit limit asked = subst (λ w. StretchesInTime w (stretches whole.course)) asked whole.in_time

  -- a row begins a late reply
  late_unlawful : (row : SeenRow) → IsCrossing file (after ++ row ∷ before) → row.is_reset ≡ false
      → IsLateAfter plan.within course.now row found → ⊥
  late_unlawful row crossing beat is =
      let same : whole.crossed ≡ after ++ row ∷ before =
      crossing_is_unique file whole.crossed (after ++ row ∷ before) whole.crossing crossing in
      late_is_out is.limit plan after before row course whole.course.now whole.course.ended
      (subst (λ l. AreStretches plan l whole.course.now whole.course.ended) same whole.course.are)
      (in_time_by_limit is.limit is.asked) beat is.late

  -- a request has waited for too long
  wait_unlawful : (time : ℕ) → IsCrossing file (after ++ before) → IsUnanswered plan.within time course.now found → ⊥
  wait_unlawful time crossing is =
      let same : whole.crossed ≡ after ++ before =
      crossing_is_unique file whole.crossed (after ++ before) whole.crossing crossing in
      unanswered_is_out is.limit plan after before course whole.course.now whole.course.ended
      (subst (λ l. AreStretches plan l whole.course.now whole.course.ended) same whole.course.are)
      (in_time_by_limit is.limit is.asked) is.row is.before is.are is.first
      (subst (λ t. first_late is.limit t (waiting_in course.now.plan (watched_in course.now)) ≡ Some is.first) (sym is.now)
      is.late)

  breach_unlawful : (time : ℕ) (next : Option SeenRow) → IsCrossing file (after ++ (option_to_list next ++ before))
      → IsBreach plan.within time course.now next found → ⊥
  breach_unlawful time None crossing is = wait_unlawful time crossing is
  breach_unlawful time (Some row) crossing is = go is.2
    where
      go : IsUnlawfulAfter course.now row found ⊎ IsLateAfter plan.within course.now row found → ⊥
      go (inl beat) = beat_unlawful row crossing is.1 beat
      go (inr late) = late_unlawful row crossing is.1 late

pub not_lawful : (plan : SystemPlan) (file : List SeenRow) (found : Unlawful) → IsFirstUnlawful plan file found
    → IsLawfulFile plan file → ⊥
not_lawful plan file found first whole =
    breach_unlawful plan file first.after first.before first.course found whole first.time first.next first.crossing first.is

-- ---- what is told

none : (rows : List SeenRow) → length rows ≡ 0 → rows ≡ []
none [] is = refl
none (row ∷ rows) is = absurd (omega (arith, is))

none_told : (trace : Bool) (plan : SystemPlan) (crossed : List SeenRow) (course : Stretches plan crossed) → crossed ≡ []
    → IsToldOfAll trace (stretches course) []
none_told trace plan [] course is =
    rw (course.are.0, course.are.1) ([], [], refl, refl, refl)
none_told trace plan (row ∷ crossed) course is = absurd (cc)

rest_none : (now before : List SeenRow) → length (now ++ before) ≡ 0 → length before ≡ 0
rest_none now before is = let both = length-append now before in omega (arith, is, both)

-- of no rows nothing is told
pub told_none : (plan : SystemPlan) (judge : JudgeView) → Judges plan [] judge → HasTold plan [] judge []
told_none plan judge judges =
    let before : judges.before ≡ [] = none judges.before (rest_none (reverse judge.moment.rows) judges.before
    (length_permutation [] _ judges.crossing.same)) in
    record {
      judges = judges;
      told = none_told (is_traced judge) plan judges.before judges.course before;
    }

-- the rows of the moment at hand are told
pub told_later : (plan : SystemPlan) (file : List SeenRow) (row : SeenRow) (old new : JudgeView) (tally : Tally)
    (so_far now next : List ℕ) (has : HasTold plan file old so_far) → IsLaterRow row old new
    → late_before old.tally.waits old.moment.rows ≡ None → new.tally ≡ tally → is_traced new ≡ is_traced old
    → KeepsOn plan has.judges.before has.judges.course (reverse old.moment.rows ++ has.judges.before) (is_traced old) tally
    now next
    → TellsOn plan (file ++ row ∷ []) new so_far now next
unfolding judges_later
told_later plan file row old new tally so_far now next has more none same trace on = record {
  more = on.told.more;
  grown = on.told.grown;
  told = record {
    judges = judges_later plan file row old new has.judges more none on.next
        (subst (KeptIn plan (reverse old.moment.rows ++ has.judges.before) on.next) (sym same) on.kept);
    told = subst (λ t. IsToldOfAll t (stretches on.next) (so_far ++ on.told.more)) (sym trace)
        (on.told.told so_far has.told);
  };
}

-- a row of the moment's time tells nothing
pub told_now : (plan : SystemPlan) (file : List SeenRow) (row : SeenRow) (old new : JudgeView) (so_far text : List ℕ)
    → HasTold plan file old so_far → Takes old.moment row new.moment → IsRowMore old new
    → TellsOn plan (file ++ row ∷ []) new so_far text text
unfolding judges_now
told_now plan file row old new so_far text has takes more =
    let trace : is_traced new ≡ is_traced old = ap (λ (t : Tally). t.trace) more.tally in
    record {
      more = [];
      grown = sym (append-nil text);
      told = record {
        judges = judges_now plan file row old new has.judges takes more;
        told = subst (λ t. IsToldOfAll t (stretches has.judges.course) (so_far ++ [])) (sym trace)
            (subst (IsToldOfAll (is_traced old) (stretches has.judges.course)) (sym (append-nil so_far)) has.told);
      };
    }

-- what is told before the first unlawful row
pub told_before : (plan : SystemPlan) (file : List SeenRow) (judge : JudgeView) (found : Unlawful) (so_far now next : List ℕ)
    (has : HasTold plan file judge so_far)
    → StopsTelling (is_traced judge) plan judge.moment.rows has.judges.before has.judges.course now next found
    → (more : List ℕ) × (next ≡ now ++ more) × IsToldBefore (is_traced judge) plan file (so_far ++ more) found
told_before plan file judge found so_far now next has stops = (
  stops.told.more,
  stops.told.grown,
  record {
    first = first_unlawful plan file judge found has.judges stops.stops;
    told = stops.told.told so_far has.told;
  },
)

-- what is told of a lawful file
pub told_file : (plan : SystemPlan) (file : List SeenRow) (judge : JudgeView) (tally : Tally) (so_far now next : List ℕ)
    (has : HasTold plan file judge so_far) → IsMoment judge.moment → late_before judge.tally.waits judge.moment.rows ≡ None
    → KeepsOn plan has.judges.before has.judges.course (reverse judge.moment.rows ++ has.judges.before) (is_traced judge)
    tally now next
    → (more : List ℕ) × (next ≡ now ++ more) × IsToldFile (is_traced judge) plan file (so_far ++ more)
told_file plan file judge tally so_far now next has moment none on = (
  on.told.more,
  on.told.grown,
  record {
    lawful = record {
      crossed = reverse judge.moment.rows ++ has.judges.before;
      crossing = has.judges.crossing;
      course = on.next;
      lawful = on.kept.tallied.keeps.lawful;
      in_time = still_in_time plan file judge has.judges moment none on.next;
    };
    told = on.told.told so_far has.told;
  },
)

-- rows that are refused, but not for want of memory, are not lawful
pub refused_is_not_lawful : (plan : SystemPlan) (file : List SeenRow) (why : Refusal)
    → OfUnlawful (IsFirstUnlawful plan file) why → (why ≡ refusal.Memory → ⊥) → IsLawfulFile plan file → ⊥
refused_is_not_lawful plan file (refusal.Unlawful found) first other lawful = not_lawful plan file found first lawful
refused_is_not_lawful plan file refusal.Memory first other lawful = other refl

-- what becomes of a row of a later time where those before it are refused, and what is told then
pub stops_so : (plan : SystemPlan) (file : List SeenRow) (row : SeenRow) (why : Refusal) → IsLater file row
    → OfUnlawful (IsFirstUnlawful plan file) why → IsStop plan file row (stop_of why)
stops_so plan file row (refusal.Unlawful found) later first = (later, first)
stops_so plan file row refusal.Memory later first = later

-- memory was refused to a row of a later time only if it was to those before it
pub wants_so : {P : Type 0} (why : Refusal) → stop_of why ≡ stop.Memory → (why ≡ refusal.Memory → P) → P
wants_so (refusal.Unlawful found) is to = absurd (cc)
wants_so refusal.Memory is to = to refl

pub tells_so : (trace : Bool) (plan : SystemPlan) (file : List SeenRow) (so_far now next : List ℕ) (why : Refusal)
    → OfUnlawful (λ found. (more : List ℕ) × (next ≡ now ++ more)
    × IsToldBefore trace plan file (so_far ++ more) found) why
    → TellsStop trace plan file so_far now next (stop_of why)
tells_so trace plan file so_far now next (refusal.Unlawful found) told = told
tells_so trace plan file so_far now next refusal.Memory told = tt

-- ---- parts of a file

all_turned : (P : SeenRow → Type 0) (rows : List SeenRow) → AllByRecursion P rows → AllByRecursion P (reverse rows)
all_turned P rows all = recursion_from_All P (reverse rows) (turned rows P (All-from_recursion P rows all))

no_earlier : (time : ℕ) (rows : List SeenRow) → time ≡ 0 → AllByRecursion (λ row. row.time < time) rows → rows ≡ []
no_earlier time [] is all = refl
no_earlier time (row ∷ rows) is all = let lt = all.0 in absurd (omega (arith, is, lt))

turned_none : (rows : List SeenRow) → reverse rows ≡ [] → rows ≡ []
turned_none rows is =
    none rows (let long = length_permutation rows (reverse rows) (IsPermutation-reverse rows) in
    let short = ap length is in omega (arith, long, short))

-- what a judge has told is told of the rows of earlier times
pub told_earlier : (plan : SystemPlan) (file : List SeenRow) (judge : JudgeView) (text : List ℕ) → HasTold plan file judge text
    → IsToldEarlier (is_traced judge) plan file text
told_earlier plan file judge text has = record {
  time = judge.moment.time;
  part = record {
    after = reverse judge.moment.rows;
    before = has.judges.before;
    crossing = has.judges.crossing;
    course = has.judges.course;
    lawful = has.judges.kept.tallied.keeps.lawful;
    told = has.told;
  };
  now = all_turned (λ row. row.time ≡ judge.moment.time) judge.moment.rows has.judges.now;
  earlier = has.judges.earlier;
  none = λ is. no_earlier judge.moment.time has.judges.before
      (has.judges.begun (turned_none judge.moment.rows is)) has.judges.earlier;
}

pub part_of_file : (trace : Bool) (plan : SystemPlan) (file : List SeenRow) (text : List ℕ) → IsToldFile trace plan file text
    → IsToldPart trace plan file text
part_of_file trace plan file text told = record {
  after = [];
  before = told.lawful.crossed;
  crossing = told.lawful.crossing;
  course = told.lawful.course;
  lawful = told.lawful.lawful;
  told = told.told;
}

-- the rows before what makes a file unlawful are lawful
breach_after : (within : Option ℕ) (time : ℕ) (stretch : Stretch) (next : Option SeenRow) (found : Unlawful)
    → IsBreach within time stretch next found → IsLawfulStretch stretch
breach_after within time stretch None found is = is.lawful
breach_after within time stretch (Some row) found is = go is.2
  where
    go : IsUnlawfulAfter stretch row found ⊎ IsLateAfter within stretch row found → IsLawfulStretch stretch
    go (inl beat) = beat.lawful
    go (inr late) = lawful_rest stretch.plan (row ∷ []) stretch.rows late.lawful

pub part_before : (trace : Bool) (plan : SystemPlan) (file : List SeenRow) (text : List ℕ) (found : Unlawful)
    → IsToldBefore trace plan file text found → IsToldPart trace plan file text
part_before trace plan file text found told = record {
  after = told.first.after ++ option_to_list told.first.next;
  before = told.first.before;
  crossing = subst (IsCrossing file) (sym (append_assoc told.first.after
      (option_to_list told.first.next) told.first.before)) told.first.crossing;
  course = told.first.course;
  lawful = breach_after plan.within told.first.time told.first.course.now told.first.next found told.first.is;
  told = told.told;
}
