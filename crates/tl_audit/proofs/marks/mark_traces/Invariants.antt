use Rattle.std.proofs.Common.{take}
use Rattle.tl_journal.specs.Trace.{entries_in}
use Rattle.tl_audit.specs.Agrees.{times_named}
use Rattle.tl_audit.specs.Marks.{AreMarkedBy, rows_in}
use Rattle.tl_audit.proofs.marks.mark_traces.Given as goal

-- the places that the traces so far name are marked
abbrev pub invariant-loop-trace : goal.invariant-loop-trace
invariant-loop-trace l =
    AreMarkedBy (times_named (take l.trace-index (entries_in l.traces))) (rows_in l.fn.rows) (rows_in l.rows)
