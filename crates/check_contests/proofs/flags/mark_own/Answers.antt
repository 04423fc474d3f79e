use Rattle.std.proofs.Common.{◌∙◌, ℕ, ◌+◌, ◌-◌, ◌<◌, Bool, true, length, refl, sym, ap, arith}
use Rattle.std.proofs.lemmas.List.{length-set}
use Rattle.check_contests.specs.Writes.{writes}
use Rattle.check_contests.proofs.Marks.{step_yes, step_no, all_flagged}
use Rattle.check_contests.proofs.Near.{not_written}
use Rattle.check_contests.proofs.flags.mark_own.Goals as goal
use Rattle.check_contests.proofs.flags.mark_own.Goals.{then-writes_at, else-writes_at}

pub loop-place-preserved : goal.loop-place-preserved
loop-place-preserved c =
    let ask = c.args.ask.now in
    let k = c.loop-place.place in
    let start = c.address.result - c.args.first in
    let test : ℕ → Bool = λ j. writes ask.op ask (ask.address + j) in
    let old = c.args.flags.now in
    let flags = c.loop-place.flags in
    let room : start + k < length flags =
    omega (
      arith,
      c.requires.from,
      c.requires.to,
      c.address.ensures,
      c.loop-place-test.true,
      c.loop-place.auto.place-end,
      c.width-place-end.ensures.value,
      c.loop-place.invariant.long,
    ) in
    elim c.if-writes_at.branch [
      | then-writes_at w ↦ record {
        marked = step_yes test old flags c.if-writes_at.flags start k c.loop-place.invariant.marked
            (sym c.writes_at.ensures ∙ w.if-writes_at.true) room w.flags-is;
        long = ap length w.flags-is ∙ length-set flags (start + k) true ∙ c.loop-place.invariant.long;
      }
      | else-writes_at w ↦ record {
        marked = step_no test old flags c.if-writes_at.flags start k c.loop-place.invariant.marked
            (sym c.writes_at.ensures ∙ w.if-writes_at.false) w.flags-is;
        long = ap length w.flags-is ∙ c.loop-place.invariant.long;
      }
    ]

pub returns-clause-flags : goal.returns-clause-flags
returns-clause-flags c k below =
    let ask = c.args.ask.now in
    all_flagged (writes ask.op ask) ask c.args.first c.address.result (c.address.result - c.args.first) c.loop-place.place
    c.args.flags.now c.loop-place.flags c.loop-place.invariant.marked (not_written ask.op ask) c.address.ensures refl
    c.requires.from (omega (arith, c.width-place-end.ensures.value)) k
