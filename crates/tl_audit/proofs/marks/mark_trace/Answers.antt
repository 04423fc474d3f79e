use Rattle.tl_audit.specs.Marks.{rows_in}
use Rattle.tl_audit.proofs.Counting.{marked_more}
use Rattle.tl_audit.proofs.marks.mark_trace.Goals as goal

pub loop-place-preserved : goal.loop-place-preserved
loop-place-preserved c =
    marked_more (rows_in c.args.rows.now) (rows_in c.loop-place.rows)
    (rows_in c.put.new.rows) c.args.trace.now.items c.loop-place.place c.read.new.entry c.get.result
    c.read.ensures c.loop-place.invariant c.get.ensures (rw c.next-mark.ensures at c.put.ensures)
