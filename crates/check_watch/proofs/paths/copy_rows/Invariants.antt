-- The copies so far are those of the masters so far.
use Rattle.std.proofs.Common.{◌≡◌, take}
use Rattle.check_watch.specs.Paths.{paths_in}
use Rattle.check_watch.proofs.paths.copy_rows.Given as goal

abbrev pub invariant-loop-row : goal.invariant-loop-row
invariant-loop-row l = paths_in l.copies.items ≡ paths_in (take l.row-index l.rows)
