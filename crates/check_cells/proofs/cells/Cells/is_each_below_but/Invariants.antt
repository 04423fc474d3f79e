use Rattle.check_cells.proofs.Marking.{KeptButTo}
use Rattle.check_cells.proofs.cells.Cells.is_each_below_but.Given as goal

-- the bytes so far are kept
abbrev pub invariant-loop-place : goal.invariant-loop-place
invariant-loop-place l = KeptButTo l.marks l.self l.other l.place
