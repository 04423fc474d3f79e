-- No byte so far is a comma.
use Rattle.std.proofs.Common.{◌≡◌, ℕ, ◌<◌, ◌==◌, get_or, false}
use Rattle.check_rows.proofs.column.part_length.Given as goal

abbrev pub invariant-loop-count : goal.invariant-loop-count
invariant-loop-count l = (place : ℕ) → place < l.count → (get_or l.text place 0 == 44) ≡ false
