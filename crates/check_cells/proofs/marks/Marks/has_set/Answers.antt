use Rattle.std.proofs.Common.{◌∙◌, get_or, false, ap, sym}
use Rattle.check_cells.proofs.Marking.{none_is_found, none_marked}
use Rattle.check_cells.proofs.marks.Marks.has_set.Goals as goal

pub returns-else-self : goal.returns-else-self
returns-else-self c =
    c.if-self.false
    ∙ sym (none_is_found c.args.self.now
    (λ place. ap (λ m. get_or m place false) (sym c.self.view_is)
    ∙ none_marked c.self.inside.bits c.self.inside.len (c.self.invariant.unset c.if-self.false) place))
