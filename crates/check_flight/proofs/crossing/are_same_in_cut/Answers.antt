use Rattle.std.proofs.Common.{◌∙◌, sym, refl, arith}
use Rattle.check_flight.proofs.Cuts.{in_cut, same_in_cut, told_apart}
use Rattle.check_flight.proofs.crossing.are_same_in_cut.Goals as goal

pub returns-then-ne : goal.returns-then-ne
returns-then-ne c =
    let at = in_cut c.args.width c.args.cut c.loop-place.place c.requires.some (omega (arith, c.loop-place.auto.place)) (omega (arith, c.loop-place-test.true)) in (
      λ yes. absurd (cc),
      λ same. absurd (told_apart c.get.result c.get-in-loop-place.result c.ne.result c.ne.ensures c.if-ne.true
          (sym c.get.ensures ∙ sym (same c.loop-place.place at) ∙ c.get-in-loop-place.ensures)),
    )

pub returns : goal.returns
returns c = (
  λ yes. same_in_cut c.args.width c.args.cut c.loop-place.place c.args.given.now c.args.captured.now c.requires.some
      c.requires.paired (omega (arith, c.min-place-end.ensures, c.loop-place-test.false)) c.loop-place.invariant,
  λ same. refl,
)
