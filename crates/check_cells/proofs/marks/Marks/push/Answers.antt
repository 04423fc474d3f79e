use Rattle.std.proofs.Common.{◌≡◌, ◌∙◌, ◌+◌, ◌++◌, length, replicate, true, false, sym, ap, refl, arith}
use Rattle.check_cells.specs.Bit.{known_bit}
use Rattle.check_cells.proofs.Marking.{length-marks_in, marks_pushed}
use Rattle.check_cells.proofs.marks.Marks.push.Goals as goal
use Rattle.check_cells.proofs.marks.Marks.push.Goals.{then-mark, else-mark}

differ : true ≡ false → ⊥
differ is = cc

pub invariant_of-self : goal.invariant_of-self
invariant_of-self c = record {
  counted = c.self.invariant.counted;
  in_limit = omega (arith, c.requires, ap length c.self.view_is, length-marks_in c.self.inside.bits c.self.inside.len);
  unset = c.self.invariant.unset;
}

pub returns-else-self : goal.returns-else-self
returns-else-self c =
    let unset : c.self.inside.any ≡ false = elim c.if-mark.branch [
      | then-mark w ↦ absurd (differ (sym w.if-mark.true ∙ sym w.value-is ∙ c.if-self.false))
      | else-mark w ↦ sym w.value-is ∙ c.if-self.false
    ] in
    let clear : c.args.mark ≡ false = elim c.if-mark.branch [
      | then-mark w ↦ absurd (differ (sym w.if-mark.true ∙ sym w.value-is ∙ c.if-self.false))
      | else-mark w ↦ w.if-mark.false
    ] in
    marks_pushed c.self.inside.bits c.self.inside.bits c.self.inside.len c.args.count c.args.mark
    (λ k below. c.self.invariant.unset unset (c.self.inside.len + k) ∙ ap known_bit (sym clear))
    (λ place below. refl)
    ∙ ap (λ old. old ++ replicate c.args.count c.args.mark) c.self.view_is
