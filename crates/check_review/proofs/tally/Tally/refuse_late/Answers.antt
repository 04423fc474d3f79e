-- One row more, and the first that is not lawful or begins a late reply; or none is, and a request has waited for too long.
use Rattle.std.proofs.Common.{◌≡◌, ◌∙◌, ℕ, ◌<◌, ◌++◌, ◌∷◌, inl, true, false, All, Contains, List, Some, refl, length, reverse, take, sym, subst, arith}
use Rattle.std.proofs.lemmas.List.{take_all}
use Rattle.std.proofs.lemmas.List.Elements.{All-contains}
use Rattle.check_sides.specs.Plan.{HasLink, IsWatched, Layout}
use Rattle.check_turns.specs.Lawful.{IsLawfulInOrder}
use Rattle.check_rows.specs.Row.{SeenRow, row_with}
use Rattle.check_review.specs.Waiting.{first_late, is_late_reply, waiting_in}
use Rattle.check_review.specs.Order.{is_watched}
use Rattle.check_review.specs.Stretches.{Earlier, Stretch, Stretches, sightings_in, stretches, watched_in}
use Rattle.check_review.specs.Times.{late_before, waits_after}
use Rattle.check_review.specs.Verdict.{MayWantAfter}
use Rattle.check_review.specs.View.{HasLanes, KeepsOn, wants}
use Rattle.check_review.proofs.Covering.{covers_there, has_covered, wants_same}
use Rattle.check_review.proofs.Keeping.{keeps_then, lanes_at, of_unlawful, one_more, row_at, same_then, stops_there, wants_there}
use Rattle.check_review.proofs.OneCourse.{one_course}
use Rattle.check_review.proofs.Refusing.{any_unlawful, at_place, has_last, moment_beats, stops_waiting}
use Rattle.check_review.proofs.Stretching.{grows_nothing}
use Rattle.check_review.proofs.Timing.{late_means, next_now, some_more}
use Rattle.check_review.proofs.Watched.{seen_one, watched_is}
use Rattle.check_review.proofs.tally.Tally.refuse_late.Goals as goal

pub loop-place-init : goal.loop-place-init
loop-place-init c = record {
  same = record { layout = refl; loads = refl; trace = refl; asked = refl; covered = refl; timed = refl };
  keeps = λ system before course kept. record {
    next = course;
    kept = kept;
    told = grows_nothing c.args.self.now.trace (stretches course) c.args.text.now.items;
  };
  late = λ system before course kept mid limit asked late.
      subst (λ (s : Stretch). first_late limit c.args.moment.now.time (waiting_in s.plan (watched_in s)) ≡ Some c.args.first)
      (one_course system before course.now mid.now course.ended mid.ended course.are mid.are).0 late;
}

pub refuse_reply-requires : goal.refuse_reply-requires
refuse_reply-requires c =
    let rows = c.args.moment.now.rows in
    let i = c.loop-place.place in
    let row = row_with c.get.result.0.now c.get.result.1.now in
    let inside : i < length rows = omega (arith, c.loop-place-test.true, c.len-place-end.ensures.value) in
    let here = row_at rows i c.get.result.0.now c.get.result.1.now c.get.ensures.lanes c.get.ensures.row in
    let beats = moment_beats c.args.self.now.waits rows c.args.first c.requires.late c.requires.moment.in_order in
    record {
      known = c.if-begins_late_reply.ensures.known refl;
      watched = c.if-begins_late_reply.ensures.watched refl;
      lanes = lanes_at c.loop-place.self.watch.layout rows i c.get.result.0.now c.get.result.1.now inside c.get.ensures.lanes
          c.get.ensures.row
          (subst (λ (l : Layout). All (HasLanes l) rows) (sym c.loop-place.invariant.same.layout) c.requires.lanes)
          (at_place (λ r. r.is_reset ≡ false) rows row beats (i, inside, here));
    }

pub returns-then-begins_late_reply-clause-fault : goal.returns-then-begins_late_reply-clause-fault
returns-then-begins_late_reply-clause-fault c system before course kept =
    let rows = c.args.moment.now.rows in
    let i = c.loop-place.place in
    let row = row_with c.get.result.0.now c.get.result.1.now in
    let inside : i < length rows = omega (arith, c.loop-place-test.true, c.len-place-end.ensures.value) in
    let here = row_at rows i c.get.result.0.now c.get.result.1.now c.get.ensures.lanes c.get.ensures.row in
    let beats = moment_beats c.args.self.now.waits rows c.args.first c.requires.late c.requires.moment.in_order in
    let so_far = c.loop-place.invariant.keeps system before course kept in
    let now = so_far.next.now in
    let means = late_means system.within course.now.plan (watched_in course.now) rows c.args.first
    (subst (λ w. late_before w rows ≡ Some c.args.first) kept.waits c.requires.late) in
    let P : Layout → Type 0 = λ l. HasLink l row.sighting.link × IsWatched l.links row.sighting.link in
    let seen : is_watched now.plan.layout row.sighting.link ≡ true =
    (watched_is now.plan.layout row.sighting.link).1
    (subst P so_far.kept.tallied.keeps.suits.layout (
      c.if-begins_late_reply.ensures.known refl,
      c.if-begins_late_reply.ensures.watched refl,
    )) in
    let waits = subst (λ w. c.loop-place.self.waits ≡ waits_after w now.plan (watched_in now)) means.asked so_far.kept.waits in
    let earlier : Earlier = record { system = system; ended = so_far.next.ended } in
    stops_there c.args.self.now.trace system rows before i row course so_far.next c.args.text.now.items
    c.loop-place.text.items c.loop-place.text.items c.refuse_reply.result inside here
    (any_unlawful c.refuse_reply.result (at_place (λ r. r.is_reset ≡ false) rows row beats (i, inside, here)))
    (c.refuse_reply.ensures.fault means.limit earlier now.plan now.rows so_far.kept.tallied means.asked (λ lawful.
    sym (c.begins_late_reply.ensures.late means.limit now.plan (sightings_in now) (watched_in now) c.get.result.1.now
    so_far.kept.tallied.keeps seen lawful waits) ∙ c.if-begins_late_reply.true))
    (any_unlawful c.refuse_reply.result refl) so_far.told

pub returns-then-begins_late_reply-clause-fault_covered : goal.returns-then-begins_late_reply-clause-fault_covered
returns-then-begins_late_reply-clause-fault_covered c system before course kept =
    let rows = c.args.moment.now.rows in
    let i = c.loop-place.place in
    let row = row_with c.get.result.0.now c.get.result.1.now in
    let inside : i < length rows = omega (arith, c.loop-place-test.true, c.len-place-end.ensures.value) in
    let here = row_at rows i c.get.result.0.now c.get.result.1.now c.get.ensures.lanes c.get.ensures.row in
    let beats = moment_beats c.args.self.now.waits rows c.args.first c.requires.late c.requires.moment.in_order in
    let so_far = c.loop-place.invariant.keeps system before course kept in
    let now = so_far.next.now in
    let means = late_means system.within course.now.plan (watched_in course.now) rows c.args.first
    (subst (λ w. late_before w rows ≡ Some c.args.first) kept.waits c.requires.late) in
    let P : Layout → Type 0 = λ l. HasLink l row.sighting.link × IsWatched l.links row.sighting.link in
    let seen : is_watched now.plan.layout row.sighting.link ≡ true =
    (watched_is now.plan.layout row.sighting.link).1
    (subst P so_far.kept.tallied.keeps.suits.layout (
      c.if-begins_late_reply.ensures.known refl,
      c.if-begins_late_reply.ensures.watched refl,
    )) in
    let waits = subst (λ w. c.loop-place.self.waits ≡ waits_after w now.plan (watched_in now)) means.asked so_far.kept.waits in
    let earlier : Earlier = record { system = system; ended = so_far.next.ended } in
    covers_there system rows before i row so_far.next c.loop-place.self c.refuse_reply.new.self c.refuse_reply.result inside here
    (any_unlawful c.refuse_reply.result (at_place (λ r. r.is_reset ≡ false) rows row beats (i, inside, here)))
    (c.refuse_reply.ensures.fault means.limit earlier now.plan now.rows so_far.kept.tallied means.asked (λ lawful.
    sym (c.begins_late_reply.ensures.late means.limit now.plan (sightings_in now) (watched_in now) c.get.result.1.now
    so_far.kept.tallied.keeps seen lawful waits) ∙ c.if-begins_late_reply.true)) so_far.kept
    c.refuse_reply.ensures.same.layout (any_unlawful c.refuse_reply.result c.refuse_reply.ensures.coverage)

pub returns-then-begins_late_reply-clause-memory : goal.returns-then-begins_late_reply-clause-memory
returns-then-begins_late_reply-clause-memory c system before course kept = λ is.
    let rows = c.args.moment.now.rows in
    let i = c.loop-place.place in
    let row = row_with c.get.result.0.now c.get.result.1.now in
    let inside : i < length rows = omega (arith, c.loop-place-test.true, c.len-place-end.ensures.value) in
    let here = row_at rows i c.get.result.0.now c.get.result.1.now c.get.ensures.lanes c.get.ensures.row in
    let so_far = c.loop-place.invariant.keeps system before course kept in
    let earlier : Earlier = record { system = system; ended = so_far.next.ended } in
    wants_there (wants c.args.self.now) system rows before i row inside here so_far.next
    (subst (λ t. MayWantAfter t so_far.next.now row)
    (wants_same c.args.self.now c.loop-place.self c.loop-place.invariant.same.trace c.loop-place.invariant.same.covered
    c.loop-place.invariant.same.timed)
    (c.refuse_reply.ensures.memory earlier so_far.next.now.plan so_far.next.now.rows so_far.kept.tallied is))

pub judge_row-requires-clause-lanes : goal.judge_row-requires-clause-lanes
judge_row-requires-clause-lanes c =
    let rows = c.args.moment.now.rows in
    let i = c.loop-place.place in
    let inside : i < length rows = omega (arith, c.loop-place-test.true, c.len-place-end.ensures.value) in
    lanes_at c.loop-place.self.watch.layout rows i c.get.result.0.now c.get.result.1.now inside c.get.ensures.lanes
    c.get.ensures.row
    (subst (λ (l : Layout). All (HasLanes l) rows) (sym c.loop-place.invariant.same.layout) c.requires.lanes)

pub returns-in-Err-clause-fault : goal.returns-in-Err-clause-fault
returns-in-Err-clause-fault c system before course kept =
    let rows = c.args.moment.now.rows in
    let i = c.loop-place.place in
    let row = row_with c.get.result.0.now c.get.result.1.now in
    let inside : i < length rows = omega (arith, c.loop-place-test.true, c.len-place-end.ensures.value) in
    let here = row_at rows i c.get.result.0.now c.get.result.1.now c.get.ensures.lanes c.get.ensures.row in
    let so_far = c.loop-place.invariant.keeps system before course kept in
    stops_there c.args.self.now.trace system rows before i row course so_far.next c.args.text.now.items
    c.loop-place.text.items c.judge_row.new.text.items c.in-Err.refusal inside here c.in-Err.ensures.beat
    (of_unlawful _ _ c.in-Err.refusal (λ found is. inl is)
    (c.in-Err.ensures.fault system (reverse (take i rows) ++ before) so_far.next so_far.kept))
    c.in-Err.ensures.quiet so_far.told

pub returns-in-Err-clause-fault_covered : goal.returns-in-Err-clause-fault_covered
returns-in-Err-clause-fault_covered c system before course kept =
    let rows = c.args.moment.now.rows in
    let i = c.loop-place.place in
    let row = row_with c.get.result.0.now c.get.result.1.now in
    let inside : i < length rows = omega (arith, c.loop-place-test.true, c.len-place-end.ensures.value) in
    let here = row_at rows i c.get.result.0.now c.get.result.1.now c.get.ensures.lanes c.get.ensures.row in
    let so_far = c.loop-place.invariant.keeps system before course kept in
    covers_there system rows before i row so_far.next c.loop-place.self c.judge_row.new.self c.in-Err.refusal inside here
    c.in-Err.ensures.beat
    (of_unlawful _ _ c.in-Err.refusal (λ found is. inl is)
    (c.in-Err.ensures.fault system (reverse (take i rows) ++ before) so_far.next so_far.kept)) so_far.kept
    c.in-Err.ensures.same.layout c.in-Err.ensures.uncovered

pub returns-in-Err-clause-memory : goal.returns-in-Err-clause-memory
returns-in-Err-clause-memory c system before course kept = λ is.
    let rows = c.args.moment.now.rows in
    let i = c.loop-place.place in
    let row = row_with c.get.result.0.now c.get.result.1.now in
    let inside : i < length rows = omega (arith, c.loop-place-test.true, c.len-place-end.ensures.value) in
    let here = row_at rows i c.get.result.0.now c.get.result.1.now c.get.ensures.lanes c.get.ensures.row in
    let so_far = c.loop-place.invariant.keeps system before course kept in
    wants_there (wants c.args.self.now) system rows before i row inside here so_far.next
    (subst (λ t. MayWantAfter t so_far.next.now row)
    (wants_same c.args.self.now c.loop-place.self c.loop-place.invariant.same.trace c.loop-place.invariant.same.covered
    c.loop-place.invariant.same.timed)
    (c.in-Err.ensures.memory system (reverse (take i rows) ++ before) so_far.next so_far.kept is))

pub loop-place-preserved : goal.loop-place-preserved
loop-place-preserved c =
    let rows = c.args.moment.now.rows in
    let i = c.loop-place.place in
    let row = row_with c.get.result.0.now c.get.result.1.now in
    let time = c.args.moment.now.time in
    let first = c.args.first in
    let inside : i < length rows = omega (arith, c.loop-place-test.true, c.len-place-end.ensures.value) in
    let here = row_at rows i c.get.result.0.now c.get.result.1.now c.get.ensures.lanes c.get.ensures.row in
    let beats = moment_beats c.args.self.now.waits rows first c.requires.late c.requires.moment.in_order in
    let beat = at_place (λ r. r.is_reset ≡ false) rows row beats (i, inside, here) in
    let at : row.time ≡ time = All-contains (λ r. r.time ≡ time) rows row c.requires.moment.at_time (i, inside, here) in
    let judged = c.in_default.ensures in
    let trace = c.args.self.now.trace in
    record {
      same = same_then _ _ _ c.loop-place.invariant.same judged.same;
      keeps = λ system before course kept.
          let so_far = c.loop-place.invariant.keeps system before course kept in
          subst (λ l. KeepsOn system before course l trace c.judge_row.new.self c.args.text.now.items c.judge_row.new.text.items)
          (sym (one_more rows before i row inside here))
          (keeps_then system before course (reverse (take i rows) ++ before) (row ∷ (reverse (take i rows) ++ before)) trace
          c.loop-place.self.trace c.loop-place.self c.judge_row.new.self c.args.text.now.items c.loop-place.text.items
          c.judge_row.new.text.items c.loop-place.invariant.same.trace so_far
          (judged.keeps system (reverse (take i rows) ++ before) so_far.next so_far.kept));
      late = λ system before course kept mid limit asked late.
          let so_far = c.loop-place.invariant.keeps system before course kept in
          let crossed = reverse (take i rows) ++ before in
          let now = so_far.next.now in
          let after = judged.keeps system crossed so_far.next so_far.kept in
          let waits = subst (λ w. c.loop-place.self.waits ≡ waits_after w now.plan (watched_in now)) asked so_far.kept.waits in
          let longer : Stretch = record { plan = now.plan; rows = row ∷ now.rows } in
          let lawful : IsLawfulInOrder now.plan (sightings_in longer) =
          subst (λ (s : Stretch). IsLawfulInOrder s.plan (sightings_in s))
          (next_now system crossed row so_far.next after.next beat) after.kept.tallied.keeps.lawful in
          let other : is_watched now.plan.layout row.sighting.link ≡ true
          → is_late_reply limit now.plan (watched_in now) row ≡ false =
          λ seen. sym (c.begins_late_reply.ensures.late limit now.plan (sightings_in now) (watched_in now) c.get.result.1.now
          so_far.kept.tallied.keeps seen
          (subst (IsLawfulInOrder now.plan) (seen_one now.plan.layout row now.rows seen) lawful) waits)
          ∙ c.if-begins_late_reply.false in
          let still : first_late limit time (waiting_in longer.plan (watched_in longer)) ≡ Some first =
          some_more limit time now.plan row now.rows at first
          (c.loop-place.invariant.late system before course kept so_far.next limit asked late) other in
          let P : List SeenRow → Type 0 =
          λ l. (m : Stretches system l) → first_late limit time (waiting_in m.now.plan (watched_in m.now)) ≡ Some first in
          subst P (sym (one_more rows before i row inside here))
          (λ m. subst (λ (s : Stretch). first_late limit time (waiting_in s.plan (watched_in s)) ≡ Some first)
          (sym (next_now system crossed row so_far.next m beat)) still) mid;
    }

pub returns-clause-fault : goal.returns-clause-fault
returns-clause-fault c system before course kept =
    let rows = c.args.moment.now.rows in
    let time = c.args.moment.now.time in
    let first = c.args.first in
    let all : take c.loop-place.place rows ≡ rows =
    take_all c.loop-place.place rows (omega (arith, c.loop-place-test.false, c.len-place-end.ensures.value)) in
    let means = late_means system.within course.now.plan (watched_in course.now) rows first
    (subst (λ w. late_before w rows ≡ Some first) kept.waits c.requires.late) in
    let there : Contains rows means.row = subst (λ l. Contains l means.row) (sym means.are) (0, omega arith, refl) in
    let at : means.row.time ≡ time = All-contains (λ r. r.time ≡ time) rows means.row c.requires.moment.at_time there in
    let last = has_last rows means.row there in
    let beats = moment_beats c.args.self.now.waits rows first c.requires.late c.requires.moment.in_order in
    let now = All-contains (λ r. r.time ≡ time) rows last.last c.requires.moment.at_time last.there in
    let so_far = subst (λ (l : List SeenRow). KeepsOn system before course (reverse l ++ before) c.args.self.now.trace c.loop-place.self
    c.args.text.now.items c.loop-place.text.items) all (c.loop-place.invariant.keeps system before course kept) in
    let L : ℕ → Stretch → Type 0 = λ t s. first_late means.limit t (waiting_in s.plan (watched_in s)) ≡ Some first in
    let late : L time so_far.next.now =
    subst (λ (l : List SeenRow). (m : Stretches system (reverse l ++ before)) → L time m.now) all
    (λ m. c.loop-place.invariant.late system before course kept m means.limit means.asked
    (subst (λ t. L t course.now) at means.late)) so_far.next in
    record {
      stops = stops_waiting system rows before so_far.next means.row there last (now ∙ sym at)
          (at_place (λ r. r.is_reset ≡ false) rows last.last beats last.there) so_far.kept.tallied.keeps.lawful means.limit
          means.asked first (subst (λ t. L t so_far.next.now) (sym at) late) c.unanswered.result c.unanswered.ensures.named
          c.unanswered.ensures.breach;
      told = so_far.told;
    }

pub returns-clause-fault_covered : goal.returns-clause-fault_covered
returns-clause-fault_covered c system before course kept =
    let rows = c.args.moment.now.rows in
    let time = c.args.moment.now.time in
    let first = c.args.first in
    let all : take c.loop-place.place rows ≡ rows =
    take_all c.loop-place.place rows (omega (arith, c.loop-place-test.false, c.len-place-end.ensures.value)) in
    let means = late_means system.within course.now.plan (watched_in course.now) rows first
    (subst (λ w. late_before w rows ≡ Some first) kept.waits c.requires.late) in
    let there : Contains rows means.row = subst (λ l. Contains l means.row) (sym means.are) (0, omega arith, refl) in
    let at : means.row.time ≡ time = All-contains (λ r. r.time ≡ time) rows means.row c.requires.moment.at_time there in
    let last = has_last rows means.row there in
    let beats = moment_beats c.args.self.now.waits rows first c.requires.late c.requires.moment.in_order in
    let now = All-contains (λ r. r.time ≡ time) rows last.last c.requires.moment.at_time last.there in
    let so_far = subst (λ (l : List SeenRow). KeepsOn system before course (reverse l ++ before) c.args.self.now.trace c.loop-place.self
    c.args.text.now.items c.loop-place.text.items) all (c.loop-place.invariant.keeps system before course kept) in
    let L : ℕ → Stretch → Type 0 = λ t s. first_late means.limit t (waiting_in s.plan (watched_in s)) ≡ Some first in
    let late : L time so_far.next.now =
    subst (λ (l : List SeenRow). (m : Stretches system (reverse l ++ before)) → L time m.now) all
    (λ m. c.loop-place.invariant.late system before course kept m means.limit means.asked
    (subst (λ t. L t course.now) at means.late)) so_far.next in
    record {
      stops = stops_waiting system rows before so_far.next means.row there last (now ∙ sym at)
          (at_place (λ r. r.is_reset ≡ false) rows last.last beats last.there) so_far.kept.tallied.keeps.lawful means.limit
          means.asked first (subst (λ t. L t so_far.next.now) (sym at) late) c.unanswered.result c.unanswered.ensures.named
          c.unanswered.ensures.breach;
      covered = has_covered system (reverse rows ++ before) so_far.next c.loop-place.self so_far.kept;
    }
