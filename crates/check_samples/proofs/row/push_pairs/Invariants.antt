-- The digits so far stand before the rest.
use Rattle.std.proofs.Common.{◌≡◌, ◌++◌, length}
use Rattle.check_samples.specs.Row.{hexes}
use Rattle.check_samples.proofs.row.push_pairs.Given as goal

abbrev pub invariant-loop-rest : goal.invariant-loop-rest
invariant-loop-rest l = l.text.items ++ hexes l.rest ≡ l.fn.text.items ++ hexes l.bits

abbrev pub decreases-loop-rest : goal.decreases-loop-rest
decreases-loop-rest l = length l.rest
