use Rattle.std.proofs.Common.{◌∙◌, length, ap, sym, arith}
use Rattle.check_cells.proofs.Marking.{length-marks_in, unset_is_none}
use Rattle.check_cells.proofs.marks.Marks.finds_set.Goals as goal

pub returns : goal.returns
returns c =
    let marks = c.args.self.now in
    let counted = ap length (sym c.self.view_is) ∙ length-marks_in c.self.inside.bits c.self.inside.len in
    sym (unset_is_none marks c.loop-place.place (omega (arith, counted)) c.loop-place.invariant)
