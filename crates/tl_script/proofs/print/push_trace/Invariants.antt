-- The lines so far, after what there was.
use Rattle.std.proofs.Common.{◌≡◌, ◌++◌, take}
use Rattle.tl_script.specs.Trace.{lines_of}
use Rattle.tl_text.specs.Text.{BeginsWith}
use Rattle.tl_script.proofs.print.push_trace.Given as goal

abbrev pub invariant-loop-place : goal.invariant-loop-place
invariant-loop-place l =
    (l.text.items ≡ l.initial.text.items ++ lines_of l.master (take l.place l.trace.items))
    × BeginsWith l.initial.text.items l.text.items
