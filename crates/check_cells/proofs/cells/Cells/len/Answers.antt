use Rattle.std.proofs.Common.{◌∙◌, length, sym, ap}
use Rattle.check_cells.proofs.Lanes.{length-room}
use Rattle.check_cells.proofs.cells.Cells.len.Goals as goal

pub returns-clause-value : goal.returns-clause-value
returns-clause-value c =
    let inside = c.self.inside in
    sym (length-room inside.words inside.masks inside.len c.self.invariant.words_counted c.self.invariant.in_limit)
    ∙ ap length c.self.view_is
