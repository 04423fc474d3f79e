-- The lines so far, and those of the masters that are left; the text begins with what it was.
use Rattle.std.proofs.Common.{◌≡◌, ◌++◌, drop, map}
use Rattle.tl_script.specs.Trace.{traces_from, trace_text}
use Rattle.tl_text.specs.Text.{BeginsWith}
use Rattle.tl_script.proofs.print.push_traces.Given as goal

abbrev pub invariant-loop-master : goal.invariant-loop-master
invariant-loop-master l =
    (l.text.items ++ traces_from l.master (map (λ trace. trace.items) (drop l.master l.traces))
    ≡ l.initial.text.items ++ trace_text (map (λ trace. trace.items) l.traces))
    × BeginsWith l.initial.text.items l.text.items
