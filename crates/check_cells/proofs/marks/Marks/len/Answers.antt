use Rattle.std.proofs.Common.{◌∙◌, length, sym, ap}
use Rattle.check_cells.proofs.Marking.{length-marks_in}
use Rattle.check_cells.proofs.marks.Marks.len.Goals as goal

pub returns-clause-value : goal.returns-clause-value
returns-clause-value c = sym (length-marks_in c.self.inside.bits c.self.inside.len) ∙ ap length c.self.view_is
