use Rattle.std.proofs.Common.{refl, arith}
use Rattle.tl_types.proofs.Given.{bit_in-blank}
use Rattle.check_cells.proofs.marks.Marks.new.Goals as goal

pub invariant_of-result : goal.invariant_of-result
invariant_of-result c = record { counted = refl; in_limit = omega arith; unset = λ none place. bit_in-blank place }
