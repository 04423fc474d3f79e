use Rattle.std.proofs.Common.{◌≡◌, ◌∙◌, ◌++◌, inl, length, replicate, true, false, ap, arith}
use Rattle.check_cells.proofs.Marking.{length-marks_in, marks_pushed}
use Rattle.check_cells.proofs.marks.Marks.push_bits.Goals as goal

pub mark_bits-requires-clause-inside : goal.mark_bits-requires-clause-inside
mark_bits-requires-clause-inside c =
    omega (arith, c.requires, c.self.invariant.counted, ap length c.self.view_is, length-marks_in c.self.inside.bits c.self.inside.len)

pub mark_bits-requires-clause-in_limit : goal.mark_bits-requires-clause-in_limit
mark_bits-requires-clause-in_limit c =
    omega (arith, c.requires, ap length c.self.view_is, length-marks_in c.self.inside.bits c.self.inside.len)

pub invariant_of-self : goal.invariant_of-self
invariant_of-self c = record {
  counted = c.mark_bits.ensures.counted ∙ c.self.invariant.counted;
  in_limit = omega (arith, c.requires, ap length c.self.view_is, length-marks_in c.self.inside.bits c.self.inside.len);
  unset = λ none. absurd (lost none);
}
  where
    lost : true ≡ false → ⊥
    lost is = cc

pub returns : goal.returns
returns c =
    marks_pushed c.self.inside.bits _ c.self.inside.len c.args.count c.args.mark c.mark_bits.ensures.inside
    (λ place below. c.mark_bits.ensures.outside place (inl below))
    ∙ ap (λ old. old ++ replicate c.args.count c.args.mark) c.self.view_is
