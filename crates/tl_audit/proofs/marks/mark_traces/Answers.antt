use Rattle.std.proofs.Common.{rules, ◌≡◌, Some, slice_get, take}
use Rattle.std.proofs.lemmas.Option.{slice_get_read}
use Rattle.tl_journal.specs.Trace.{entries_in}
use Rattle.tl_audit.specs.Agrees.{times_named}
use Rattle.tl_audit.specs.Marks.{rows_in}
use Rattle.tl_audit.proofs.Entries.{trace_at}
use Rattle.tl_audit.proofs.Counting.{marked_with, still_there}
use Rattle.tl_audit.proofs.marks.mark_traces.Goals as goal

pub mark_trace-requires : goal.mark_trace-requires
mark_trace-requires c =
    let here : slice_get c.args.traces.now c.loop-trace.trace-index ≡ Some c.trace-item.result =
    search (rules, slice_get_read) in
    still_there (rows_in c.args.rows.now) (rows_in c.loop-trace.rows)
    (times_named (take c.loop-trace.trace-index (entries_in c.args.traces.now))) c.loop-trace.invariant
    c.trace-item.result.items (c.requires c.loop-trace.trace-index c.trace-item.result.items
    (trace_at c.args.traces.now c.loop-trace.trace-index c.trace-item.result here))

pub loop-trace-preserved : goal.loop-trace-preserved
loop-trace-preserved c =
    let here : slice_get c.args.traces.now c.loop-trace.trace-index ≡ Some c.trace-item.result =
    search (rules, slice_get_read) in
    let k = c.loop-trace.trace-index in
    let traces = c.args.traces.now in
    marked_with (rows_in c.args.rows.now) (rows_in c.loop-trace.rows) (rows_in c.mark_trace.new.rows)
    (entries_in traces) k c.trace-item.result.items
    (trace_at traces k c.trace-item.result here) c.loop-trace.invariant c.mark_trace.ensures
