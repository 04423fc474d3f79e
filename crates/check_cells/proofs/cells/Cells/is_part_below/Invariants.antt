use Rattle.check_cells.specs.Known.{IsKeptIn}
use Rattle.check_cells.proofs.cells.Cells.is_part_below.Given as goal

-- the bytes so far are kept
abbrev pub invariant-loop-place : goal.invariant-loop-place
invariant-loop-place l = IsKeptIn l.self l.other l.start l.place
