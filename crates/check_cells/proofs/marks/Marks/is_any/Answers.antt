use Rattle.std.proofs.Common.{◌∙◌, get_or, false, ap, sym}
use Rattle.check_cells.proofs.Marking.{none_marked}
use Rattle.check_cells.proofs.marks.Marks.is_any.Goals as goal

pub returns : goal.returns
returns c = λ none place.
    ap (λ m. get_or m place false) (sym c.self.view_is)
    ∙ none_marked c.self.inside.bits c.self.inside.len (c.self.invariant.unset none) place
