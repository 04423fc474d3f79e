use Rattle.std.proofs.Common.{take}
use Rattle.tl_audit.specs.Agrees.{times_in}
use Rattle.tl_audit.specs.Marks.{AreMarkedBy, rows_in}
use Rattle.tl_audit.proofs.marks.mark_trace.Given as goal

-- the places that the entries so far name are marked
abbrev pub invariant-loop-place : goal.invariant-loop-place
invariant-loop-place l =
    AreMarkedBy (λ p i. times_in p i (take l.place l.trace.items)) (rows_in l.fn.rows) (rows_in l.rows)
