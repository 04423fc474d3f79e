use Rattle.check_cells.proofs.Marking.{AreUnsetTo}
use Rattle.check_cells.proofs.marks.Marks.finds_set.Given as goal

-- the marks so far are not set
abbrev pub invariant-loop-place : goal.invariant-loop-place
invariant-loop-place l = AreUnsetTo l.self l.place
