use Rattle.std.proofs.Common.{◌*◌}
use Rattle.check_cells.specs.Known.{IsKeptIn}
use Rattle.check_cells.proofs.cells.Cells.is_below.Given as goal

-- the words so far are kept
abbrev pub invariant-loop-word : goal.invariant-loop-word
invariant-loop-word l = IsKeptIn l.self l.other 0 (8 * l.word)
