use Rattle.std.proofs.Common.{◌≡◌, ◌∙◌, ℕ, ◌≤◌, inl, inr, below_more, length, refl, ap, sym, subst, arith}
use Rattle.std.proofs.lemmas.Bool.{cases_lt}
use Rattle.check_flight.specs.Crossing.{MessageBytes, IsSameCut}
use Rattle.check_flight.proofs.Cuts.{AllWithin, same_past}
use Rattle.check_flight.proofs.crossing.are_same_cuts.Goals as goal

pub returns-then-not-is_same_cut : goal.returns-then-not-is_same_cut
returns-then-not-is_same_cut c =
    (λ yes. absurd (cc), λ same. let here = c.is_same_cut.ensures.1 (same c.loop-cut.cut) in let isnt = c.if-not-is_same_cut.true in absurd (cc))

pub loop-cut-preserved : goal.loop-cut-preserved
loop-cut-preserved c =
    below_more _ _ c.loop-cut.invariant (c.is_same_cut.ensures.0 c.if-not-is_same_cut.false)

pub returns : goal.returns
returns c =
    let width = c.args.width in
    let given : MessageBytes = record { bytes = c.given.inside.cells.now; spoiled = c.given.inside.marks.now } in
    let captured : MessageBytes = record { bytes = c.captured.inside.cells.now; spoiled = c.captured.inside.marks.now } in
    let places = c.max-places.result in
    let long : length given.bytes ≤ places = omega (arith, c.len-3.ensures.value, c.max-places.ensures) in
    let all : AllWithin places given = record {
      bytes = long;
      marks = omega (arith, c.len.ensures.value, c.max-marks.ensures, c.max-places.ensures);
    } in
    let paired : length captured.bytes ≡ length given.bytes =
    ap (λ (p : MessageBytes). length p.bytes) c.captured.view_is ∙ c.requires.paired
    ∙ sym (ap (λ (p : MessageBytes). length p.bytes) c.given.view_is) in
    let also : AllWithin places captured = record {
      bytes = omega (arith, long, paired);
      marks = omega (arith, c.len-2.ensures.value, c.max-marks.ensures, c.max-places.ensures);
    } in
    let past : (cut : ℕ) → c.loop-cut.cut ≤ cut → IsSameCut width c.args.given.now c.args.captured.now cut =
    λ cut beyond. subst (λ (g : MessageBytes). IsSameCut width g c.args.captured.now cut) c.given.view_is
    (subst (λ (k : MessageBytes). IsSameCut width given k cut) c.captured.view_is
    (same_past width places cut given captured c.requires.some all also (omega (arith, c.loop-cut-test.false, beyond)))) in
    let by_cases = λ (cut : ℕ). elim (cases_lt cut c.loop-cut.cut) as (λ r. IsSameCut width c.args.given.now c.args.captured.now cut) [
      | inl lower ↦ c.loop-cut.invariant cut lower
      | inr beyond ↦ past cut beyond
    ] in
    (λ yes. by_cases, λ same. refl)
