-- One more line is appended.
use Rattle.std.proofs.Common.{◌∙◌, ◌++◌, append-nil, append_assoc, ap, arith, refl, sym, take}
use Rattle.tl_script.specs.Trace.{lines_of, trace_line}
use Rattle.tl_script.proofs.Appended.{on_err}
use Rattle.tl_script.proofs.Lines.{lines_done, lines_more}
use Rattle.tl_text.proofs.TextLemmas.{begins_appended, begins_before, begins_with_itself}
use Rattle.tl_text.specs.Text.{BeginsWith}
use Rattle.tl_script.proofs.print.push_trace.Goals as goal

pub loop-place-preserved : goal.loop-place-preserved
loop-place-preserved c =
    let entries = c.args.trace.now.items in
    let line = trace_line c.args.master c.read.new.entry in
    let before = lines_of c.args.master (take c.loop-place.place entries) in
    let front = c.loop-place.invariant.1 in
    let one_more : BeginsWith c.loop-place.text.items c.push_entry.new.text.items =
    begins_appended _ _ _ c.in_ok-push_entry.ensures.ok in (
      c.in_ok-push_entry.ensures.ok ∙ ap (λ text. text ++ line) c.loop-place.invariant.0
          ∙ append_assoc c.args.text.now.items before line
          ∙ ap (λ lines. c.args.text.now.items ++ lines)
          (sym (lines_more c.args.master entries c.loop-place.place c.read.new.entry c.read.ensures)),
      begins_before _ _ _ one_more front,
    )

pub loop-place-init : goal.loop-place-init
loop-place-init c = (sym (append-nil _), begins_with_itself _ _ refl)

pub returns-in_err-push_entry-clause-err : goal.returns-in_err-push_entry-clause-err
returns-in_err-push_entry-clause-err c =
    on_err c.from_residual.result (begins_before _ _ _ c.in_err-push_entry.ensures.err c.loop-place.invariant.1)

pub returns-clause-ok : goal.returns-clause-ok
returns-clause-ok c =
    lines_done c.args.master c.args.trace.now.items c.loop-place.place c.args.text.now.items _
    (omega (arith, c.loop-place-test.false, c.len-place-end.ensures.value)) c.loop-place.invariant.0
