use Rattle.std.proofs.Common.{◌≡◌, ◌∙◌, ℕ, ◌+◌, ◌-◌, ◌<◌, Bool, true, false, length, refl, sym, ap, arith}
use Rattle.std.proofs.lemmas.List.{length-set}
use Rattle.std.proofs.lemmas.Bool.{and_from, and_left, and_right}
use Rattle.check_contests.specs.Writes.{writes}
use Rattle.check_contests.proofs.Marks.{shared, shares_in, step_yes, step_no, met_yes, met_no, all_flagged, is_met}
use Rattle.check_contests.proofs.flags.mark_shared.Goals as goal
use Rattle.check_contests.proofs.flags.mark_shared.Goals.{then-writes_at+then-writes_after, else-writes_at, else-writes_at-via-then-writes_at+else-writes_after, else-writes_at-via-else-writes_at}

pub loop-place-preserved : goal.loop-place-preserved
loop-place-preserved c =
    let ask = c.args.ask.now in
    let other = c.args.other.now in
    let k = c.loop-place.place in
    let start = c.address.result - c.args.first in
    let test : ℕ → Bool = λ j. shared ask other (ask.address + j) in
    let old = c.args.flags.now in
    let flags = c.loop-place.flags in
    let met = c.loop-place.met in
    let room : start + k < length flags =
    omega (
      arith,
      c.requires.from,
      c.requires.to,
      c.address.ensures,
      c.loop-place-test.true,
      c.loop-place.auto.place-end,
      c.width-place-end.ensures.value,
      c.loop-place.invariant.long,
    ) in
    elim c.if-writes_at.branch [
      | then-writes_at+then-writes_after w ↦
          let holds : test k ≡ true =
          and_from (writes ask.op ask (ask.address + k)) (writes other.op other (ask.address + k))
          (sym c.writes_at.ensures ∙ w.if-writes_at.true)
          (ap (λ a. writes other.op other (a + k)) (sym w.address-then-writes_at.ensures) ∙ sym w.writes_after.ensures
          ∙ w.if-writes_after.true) in
          record {
            marked = step_yes test old flags c.if-writes_at.flags start k c.loop-place.invariant.marked holds room w.flags-is;
            met = met_yes test k c.if-writes_at.met holds w.met-is;
            long = ap length w.flags-is ∙ length-set flags (start + k) true ∙ c.loop-place.invariant.long;
          }
      | else-writes_at w ↦
          let none : test k ≡ false =
          elim w.else-writes_at.branch [
            | else-writes_at-via-then-writes_at+else-writes_after w' ↦
                and_right (writes ask.op ask (ask.address + k)) (writes other.op other (ask.address + k))
                (ap (λ a. writes other.op other (a + k)) (sym w'.address-then-writes_at.ensures)
                ∙ sym w'.writes_after.ensures ∙ w'.if-writes_after.false)
            | else-writes_at-via-else-writes_at w' ↦
                and_left (writes ask.op ask (ask.address + k)) (writes other.op other (ask.address + k))
                (sym c.writes_at.ensures ∙ w'.if-writes_at.false)
          ] in
          record {
            marked = step_no test old flags c.if-writes_at.flags start k c.loop-place.invariant.marked none w.flags-is;
            met = met_no test k met c.if-writes_at.met c.loop-place.invariant.met none w.met-is;
            long = ap length w.flags-is ∙ c.loop-place.invariant.long;
          }
    ]

pub returns-clause-flags : goal.returns-clause-flags
returns-clause-flags c k below =
    let ask = c.args.ask.now in
    let other = c.args.other.now in
    all_flagged (shared ask other) ask c.args.first c.address.result (c.address.result - c.args.first) c.loop-place.place
    c.args.flags.now c.loop-place.flags c.loop-place.invariant.marked (shares_in ask other) c.address.ensures refl
    c.requires.from (omega (arith, c.width-place-end.ensures.value)) k

pub returns-clause-met : goal.returns-clause-met
returns-clause-met c =
    is_met c.args.ask.now c.args.other.now c.loop-place.place c.loop-place.met c.loop-place.invariant.met
    (omega (arith, c.width-place-end.ensures.value))
