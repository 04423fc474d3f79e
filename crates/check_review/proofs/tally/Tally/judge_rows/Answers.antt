-- One row more, and the first that is not lawful.
use Rattle.std.proofs.Common.{◌≡◌, ◌<◌, ◌++◌, ◌∷◌, inl, All, List, refl, length, reverse, take, sym, subst, arith}
use Rattle.std.proofs.lemmas.List.{take_all}
use Rattle.check_sides.specs.Plan.{Layout}
use Rattle.check_rows.specs.Row.{SeenRow, row_with}
use Rattle.check_review.specs.Stretches.{stretches}
use Rattle.check_review.specs.Verdict.{MayWantAfter}
use Rattle.check_review.specs.View.{HasLanes, KeepsOn, KeptIn, wants}
use Rattle.check_review.specs.declared.tally.Tally.{Tally}
use Rattle.check_review.proofs.Keeping.{keeps_then, lanes_at, of_unlawful, one_more, row_at, same_then, stops_there, wants_there}
use Rattle.check_review.proofs.Covering.{covers_there, wants_same}
use Rattle.check_review.proofs.Stretching.{grows_nothing}
use Rattle.check_review.proofs.tally.Tally.judge_rows.Goals as goal

pub returns-in-Err-clause-memory : goal.returns-in-Err-clause-memory
returns-in-Err-clause-memory c system before course kept = λ is.
    let rows = c.args.moment.now.rows in
    let i = c.loop-place.place in
    let row = row_with c.get.result.0.now c.get.result.1.now in
    let inside : i < length rows = omega (arith, c.loop-place-test.true, c.len-place-end.ensures.value) in
    let here = row_at rows i c.get.result.0.now c.get.result.1.now c.get.ensures.lanes c.get.ensures.row in
    let so_far = c.loop-place.invariant.keeps system before course kept in
    wants_there (wants c.args.self.now) system rows before i row inside here so_far.next
    (subst (λ t. MayWantAfter t so_far.next.now row)
    (wants_same c.args.self.now c.loop-place.self c.loop-place.invariant.same.trace c.loop-place.invariant.same.covered
    c.loop-place.invariant.same.timed)
    (c.in-Err.ensures.memory system (reverse (take i rows) ++ before) so_far.next so_far.kept))

pub returns-in-Err-judge_row-clause-fault : goal.returns-in-Err-judge_row-clause-fault
returns-in-Err-judge_row-clause-fault c system before course kept =
    let rows = c.args.moment.now.rows in
    let i = c.loop-place.place in
    let row = row_with c.get.result.0.now c.get.result.1.now in
    let inside : i < length rows = omega (arith, c.loop-place-test.true, c.len-place-end.ensures.value) in
    let here = row_at rows i c.get.result.0.now c.get.result.1.now c.get.ensures.lanes c.get.ensures.row in
    let so_far = c.loop-place.invariant.keeps system before course kept in
    let same : c.pass.new.self ≡ c.loop-place.self = c.in-Ok-false.ensures.refused c.in-Ok-false.field-0-test in
    let still = subst (KeptIn system (reverse (take i rows) ++ before) so_far.next) (sym same) so_far.kept in
    stops_there c.args.self.now.trace system rows before i row course so_far.next c.args.text.now.items
    c.loop-place.text.items c.judge_row.new.text.items c.in-Err-judge_row.refusal inside here c.in-Err-judge_row.ensures.beat
    (of_unlawful _ _ c.in-Err-judge_row.refusal (λ found is. inl is)
    (c.in-Err-judge_row.ensures.fault system (reverse (take i rows) ++ before) so_far.next still))
    c.in-Err-judge_row.ensures.quiet so_far.told

pub returns-in-Err-judge_row-clause-memory : goal.returns-in-Err-judge_row-clause-memory
returns-in-Err-judge_row-clause-memory c system before course kept = λ is.
    let rows = c.args.moment.now.rows in
    let i = c.loop-place.place in
    let row = row_with c.get.result.0.now c.get.result.1.now in
    let inside : i < length rows = omega (arith, c.loop-place-test.true, c.len-place-end.ensures.value) in
    let here = row_at rows i c.get.result.0.now c.get.result.1.now c.get.ensures.lanes c.get.ensures.row in
    let so_far = c.loop-place.invariant.keeps system before course kept in
    let same : c.pass.new.self ≡ c.loop-place.self = c.in-Ok-false.ensures.refused c.in-Ok-false.field-0-test in
    let still = subst (KeptIn system (reverse (take i rows) ++ before) so_far.next) (sym same) so_far.kept in
    wants_there (wants c.args.self.now) system rows before i row inside here so_far.next
    (subst (λ t. MayWantAfter t so_far.next.now row)
    (wants_same c.args.self.now c.loop-place.self c.loop-place.invariant.same.trace c.loop-place.invariant.same.covered
    c.loop-place.invariant.same.timed)
    (subst (λ (s : Tally). MayWantAfter (wants s) so_far.next.now row) same
    (c.in-Err-judge_row.ensures.memory system (reverse (take i rows) ++ before) so_far.next still is)))

pub returns-in-Err-judge_row-clause-fault_covered : goal.returns-in-Err-judge_row-clause-fault_covered
returns-in-Err-judge_row-clause-fault_covered c system before course kept =
    let rows = c.args.moment.now.rows in
    let i = c.loop-place.place in
    let row = row_with c.get.result.0.now c.get.result.1.now in
    let inside : i < length rows = omega (arith, c.loop-place-test.true, c.len-place-end.ensures.value) in
    let here = row_at rows i c.get.result.0.now c.get.result.1.now c.get.ensures.lanes c.get.ensures.row in
    let so_far = c.loop-place.invariant.keeps system before course kept in
    let same : c.pass.new.self ≡ c.loop-place.self = c.in-Ok-false.ensures.refused c.in-Ok-false.field-0-test in
    let still = subst (KeptIn system (reverse (take i rows) ++ before) so_far.next) (sym same) so_far.kept in
    covers_there system rows before i row so_far.next c.pass.new.self c.judge_row.new.self c.in-Err-judge_row.refusal inside here
    c.in-Err-judge_row.ensures.beat
    (of_unlawful _ _ c.in-Err-judge_row.refusal (λ found is. inl is)
    (c.in-Err-judge_row.ensures.fault system (reverse (take i rows) ++ before) so_far.next still)) still
    c.in-Err-judge_row.ensures.same.layout c.in-Err-judge_row.ensures.uncovered

pub loop-place-init : goal.loop-place-init
loop-place-init c = record {
  same = record { layout = refl; loads = refl; trace = refl; asked = refl; covered = refl; timed = refl };
  keeps = λ system before course kept. record {
    next = course;
    kept = kept;
    told = grows_nothing c.args.self.now.trace (stretches course) c.args.text.now.items;
  };
}

pub pass-requires : goal.pass-requires
pass-requires c =
    let rows = c.args.moment.now.rows in
    let i = c.loop-place.place in
    let inside : i < length rows = omega (arith, c.loop-place-test.true, c.len-place-end.ensures.value) in
    lanes_at c.loop-place.self.watch.layout rows i c.get.result.0.now c.get.result.1.now inside c.get.ensures.lanes
    c.get.ensures.row
    (subst (λ (l : Layout). All (HasLanes l) rows) (sym c.loop-place.invariant.same.layout) c.requires.lanes)

pub judge_row-requires-clause-lanes : goal.judge_row-requires-clause-lanes
judge_row-requires-clause-lanes c =
    let rows = c.args.moment.now.rows in
    let i = c.loop-place.place in
    let inside : i < length rows = omega (arith, c.loop-place-test.true, c.len-place-end.ensures.value) in
    let same : c.pass.new.self ≡ c.loop-place.self = c.in-Ok-false.ensures.refused c.in-Ok-false.field-0-test in
    lanes_at c.pass.new.self.watch.layout rows i c.get.result.0.now c.get.result.1.now inside c.get.ensures.lanes
    c.get.ensures.row
    (subst (λ (s : Tally). All (HasLanes s.watch.layout) rows) (sym same)
    (subst (λ (l : Layout). All (HasLanes l) rows) (sym c.loop-place.invariant.same.layout) c.requires.lanes))

pub loop-place-preserved-in-Ok-true : goal.loop-place-preserved-in-Ok-true
loop-place-preserved-in-Ok-true c =
    let rows = c.args.moment.now.rows in
    let i = c.loop-place.place in
    let row = row_with c.get.result.0.now c.get.result.1.now in
    let inside : i < length rows = omega (arith, c.loop-place-test.true, c.len-place-end.ensures.value) in
    let here = row_at rows i c.get.result.0.now c.get.result.1.now c.get.ensures.lanes c.get.ensures.row in
    let now = c.loop-place.text.items in
    let trace = c.args.self.now.trace in
    record {
      same = same_then _ _ _ c.loop-place.invariant.same c.in-Ok-true.ensures.same;
      keeps = λ system before course kept.
          let so_far = c.loop-place.invariant.keeps system before course kept in
          subst (λ l. KeepsOn system before course l trace c.pass.new.self c.args.text.now.items now)
          (sym (one_more rows before i row inside here))
          (keeps_then system before course (reverse (take i rows) ++ before) (row ∷ (reverse (take i rows) ++ before)) trace
          c.loop-place.self.trace c.loop-place.self c.pass.new.self c.args.text.now.items now now
          c.loop-place.invariant.same.trace so_far
          (c.in-Ok-true.ensures.keeps system (reverse (take i rows) ++ before) so_far.next now so_far.kept
          c.in-Ok-true.field-0-test));
    }

pub loop-place-preserved : goal.loop-place-preserved
loop-place-preserved c =
    let rows = c.args.moment.now.rows in
    let i = c.loop-place.place in
    let row = row_with c.get.result.0.now c.get.result.1.now in
    let inside : i < length rows = omega (arith, c.loop-place-test.true, c.len-place-end.ensures.value) in
    let here = row_at rows i c.get.result.0.now c.get.result.1.now c.get.ensures.lanes c.get.ensures.row in
    let now = c.loop-place.text.items in
    let next = c.judge_row.new.text.items in
    let trace = c.args.self.now.trace in
    let passed = c.in-Ok-false.ensures.refused c.in-Ok-false.field-0-test in
    let judged = c.in_default.ensures in
    record {
      same = same_then _ _ _ (same_then _ _ _ c.loop-place.invariant.same c.in-Ok-false.ensures.same) judged.same;
      keeps = λ system before course kept.
          let so_far = c.loop-place.invariant.keeps system before course kept in
          let still : KeepsOn system before course (reverse (take i rows) ++ before) trace c.pass.new.self
          c.args.text.now.items now =
          subst (λ (s : Tally). KeepsOn system before course (reverse (take i rows) ++ before) trace s c.args.text.now.items now)
          (sym passed) so_far in
          subst (λ l. KeepsOn system before course l trace c.judge_row.new.self c.args.text.now.items next)
          (sym (one_more rows before i row inside here))
          (keeps_then system before course (reverse (take i rows) ++ before) (row ∷ (reverse (take i rows) ++ before)) trace
          c.pass.new.self.trace c.pass.new.self c.judge_row.new.self c.args.text.now.items now next
          (same_then _ _ _ c.loop-place.invariant.same c.in-Ok-false.ensures.same).trace still
          (judged.keeps system (reverse (take i rows) ++ before) still.next still.kept));
    }

pub returns-clause-keeps : goal.returns-clause-keeps
returns-clause-keeps c system before course kept =
    let rows = c.args.moment.now.rows in
    let all : take c.loop-place.place rows ≡ rows =
    take_all c.loop-place.place rows (omega (arith, c.loop-place-test.false, c.len-place-end.ensures.value)) in
    subst (λ (l : List SeenRow). KeepsOn system before course (reverse l ++ before) c.args.self.now.trace c.loop-place.self
    c.args.text.now.items c.loop-place.text.items) all (c.loop-place.invariant.keeps system before course kept)
