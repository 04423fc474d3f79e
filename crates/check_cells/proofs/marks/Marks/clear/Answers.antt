use Rattle.std.proofs.Common.{refl, arith}
use Rattle.tl_types.proofs.Given.{bit_in-blank}
use Rattle.check_cells.proofs.marks.Marks.clear.Goals as goal
use Rattle.check_cells.proofs.marks.Marks.clear.Goals.{then-self, else-self}

pub invariant_of-self : goal.invariant_of-self
invariant_of-self c = elim c.if-self.branch [
  | then-self w ↦ rw (w.self-inside-is) (record { counted = refl; in_limit = omega arith; unset = λ none place. bit_in-blank place })
  | else-self w ↦ rw (w.self-inside-is) (record { counted = c.self.invariant.counted; in_limit = omega arith; unset = c.self.invariant.unset })
]
