-- The lines of one more trace are appended.
use Rattle.std.proofs.Common.{refl}
use Rattle.tl_script.proofs.Appended.{on_err}
use Rattle.tl_script.proofs.Lines.{traces_done, traces_more}
use Rattle.tl_text.proofs.TextLemmas.{begins_appended, begins_before, begins_with_itself}
use Rattle.tl_script.proofs.print.push_traces.Goals as goal

pub loop-master-init : goal.loop-master-init
loop-master-init c = (refl, begins_with_itself _ _ refl)

pub returns-in_err-push_trace-clause-err : goal.returns-in_err-push_trace-clause-err
returns-in_err-push_trace-clause-err c =
    on_err c.from_residual.result (begins_before _ _ _ c.in_err-push_trace.ensures.err c.loop-master.invariant.1)

pub loop-master-preserved : goal.loop-master-preserved
loop-master-preserved c = (
  traces_more c.loop-master.master c.args.traces.now c.index-traces-master.result c.loop-master.text.items _ _
      c.loop-master-test.true c.index-traces-master.is c.loop-master.invariant.0 c.in_ok-push_trace.ensures.ok,
  begins_before _ _ _ (begins_appended _ _ _ c.in_ok-push_trace.ensures.ok) c.loop-master.invariant.1,
)

pub returns-clause-ok : goal.returns-clause-ok
returns-clause-ok c =
    traces_done c.loop-master.master c.args.traces.now c.loop-master.text.items _ c.loop-master-test.false
    c.loop-master.invariant.0
