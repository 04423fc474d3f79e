-- The digits so far, and their value.
use Rattle.check_rows.specs.Front.{BeginsWithNumber}
use Rattle.check_rows.proofs.front.front_decimal.Given as goal

abbrev pub invariant-loop-count : goal.invariant-loop-count
invariant-loop-count l = BeginsWithNumber 10 l.text l.value l.count
