use Rattle.tl_audit.specs.Marks.{rows_in}
use Rattle.tl_audit.specs.Order.{HaveCells, IsOrderedTo}
use Rattle.tl_audit.proofs.order.first_out_of_order.Given as goal

-- the entries so far are in order, and their last indexes are kept
abbrev pub invariant-loop-place : goal.invariant-loop-place
invariant-loop-place l = IsOrderedTo l.trace.items l.place (rows_in l.lasts) × HaveCells (rows_in l.lasts) l.trace.items
