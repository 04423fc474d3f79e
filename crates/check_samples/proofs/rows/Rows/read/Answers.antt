-- Changes are taken, and then what happens next, or the end of the rows.
use Rattle.std.proofs.Common.{refl}
use Rattle.std.specs.Option.{IfSome, option_map}
use Rattle.check_vcd.specs.Dump.{happens_in}
use Rattle.check_samples.specs.Due.{due_text}
use Rattle.check_samples.specs.EdgeFault.{edge_fault_view}
use Rattle.check_samples.specs.Faults.{of_dump, of_sample}
use Rattle.check_samples.specs.Left.{RowsGoOn, Stops, left_in}
use Rattle.check_samples.specs.declared.rows.Progress.TheVariants.{More}
use Rattle.check_samples.proofs.LeftLemmas.{both-same, both-then, changes-on, ends, err-then, fails-by, goes-on, if-then, ok-then, said-of, stops-ending, stops-over, stops-reading, stops-taking}
use Rattle.check_samples.proofs.rows.Rows.read.Goals as goal

pub loop-init : goal.loop-init
loop-init g c = record { same = rw (← c.self.view_is) (both-same (left_in c.self.inside.dump c.self.inside.sampler)); text = refl }

pub loop-preserved : goal.loop-preserved
loop-preserved g c =
    let inside = c.loop.self-inside in
    record {
      same = changes-on c.args.self.now (happens_in inside.dump) (happens_in c.read.new.self) inside.sampler c.change.new.self
          c.in-Ok-Some-Change.slot c.read.new.self.body.value c.loop.invariant.same
          (rw (c.in-Ok-Some-Change.field-0-is, c.in-Ok-Some-Change.field-0-0-is) at c.in-Ok-Some-Change.ensures.ok)
          (rw c.value.ensures at c.in_ok-change-in-Ok-Some-Change.ensures);
      text = c.loop.invariant.text;
    }

pub returns-in-Ok-Some : goal.returns-in-Ok-Some
returns-in-Ok-Some g c =
    let inside = c.loop.self-inside in
    let dump = c.read.new.self in
    let left = left_in inside.dump inside.sampler in
    record {
      ok = rw (← c.loop.invariant.text) (both-then c.args.self.now left (left_in dump c.take.new.self)
          (RowsGoOn More (due_text c.loop.due) (due_text c.take.new.due)) c.loop.invariant.same
          (goes-on (happens_in inside.dump) (happens_in dump) inside.sampler c.take.new.self (due_text c.loop.due)
          (due_text c.take.new.due) tt c.in-Ok-Some.event dump.body.value
          (rw c.in-Ok-Some.field-0-is at c.in-Ok-Some.ensures.ok)
          (rw c.value-in-Ok-Some.ensures at c.in_ok-take-in-Ok-Some.ensures.rows)
          (rw c.value-in-Ok-Some.ensures at c.in_ok-take-in-Ok-Some.ensures.state) c.in_ok-take-in-Ok-Some.ensures.gap));
      fault = tt;
    }

pub returns-in_err-take-in-Ok-Some-clause-fault : goal.returns-in_err-take-in-Ok-Some-clause-fault
returns-in_err-take-in-Ok-Some-clause-fault g c =
    let fault = c.in_err-take-in-Ok-Some.field-0.0 in
    let inside = c.loop.self-inside in
    let old = due_text c.loop.due in
    let new = due_text c.take.new.due in
    let dump = c.read.new.self in
    rw (← c.loop.invariant.text) (fails-by c.from_residual-in_err-take-in-Ok-Some.result (of_sample fault)
    (λ f. IfSome c.args.self.now (Stops f old new)) c.from_residual-in_err-take-in-Ok-Some.ensures.1
    (if-then c.args.self.now (left_in inside.dump inside.sampler) (Stops (of_sample fault) old new) c.loop.invariant.same
    (stops-taking (happens_in inside.dump) (happens_in dump) inside.sampler c.take.new.self old new
    fault c.in-Ok-Some.event dump.body.value (rw c.in-Ok-Some.field-0-is at c.in-Ok-Some.ensures.ok)
    (rw c.value-in-Ok-Some.ensures at c.in_err-take-in-Ok-Some.ensures.rows) c.in_err-take-in-Ok-Some.ensures.gap)))

pub returns-in_err-push_rows-in-Ok-None-clause-fault : goal.returns-in_err-push_rows-in-Ok-None-clause-fault
returns-in_err-push_rows-in-Ok-None-clause-fault g c =
    let fault = c.in_err-push_rows-in-Ok-None.field-0.0 in
    let inside = c.loop.self-inside in
    let old = due_text c.loop.due in
    let new = due_text c.push_rows.new.due in
    rw (← c.loop.invariant.text) (fails-by c.from_residual-in_err-push_rows-in-Ok-None.result (of_sample fault)
    (λ f. IfSome c.args.self.now (Stops f old new)) c.from_residual-in_err-push_rows-in-Ok-None.ensures.1
    (if-then c.args.self.now (left_in inside.dump inside.sampler) (Stops (of_sample fault) old new) c.loop.invariant.same
    (stops-ending (happens_in inside.dump) (happens_in c.read.new.self) inside.sampler old new fault
    (rw c.in-Ok-None.field-0-is at c.in-Ok-None.ensures.ok) c.in_err-push_rows-in-Ok-None.ensures.writes)))

pub returns-in-Ok-None-clause-ok : goal.returns-in-Ok-None-clause-ok
returns-in-Ok-None-clause-ok g c =
    let inside = c.loop.self-inside in
    rw (← c.loop.invariant.text) (ok-then c.args.self.now (left_in inside.dump inside.sampler)
    (left_in c.read.new.self c.edge_fault.new.self) c.over.result (due_text c.loop.due) (due_text c.push_rows.new.due)
    c.loop.invariant.same (ends (happens_in inside.dump) (happens_in c.read.new.self) inside.sampler c.edge_fault.new.self
    (due_text c.loop.due) (due_text c.push_rows.new.due) tt c.over.result
    (rw c.in-Ok-None.field-0-is at c.in-Ok-None.ensures.ok) c.in_ok-push_rows-in-Ok-None.ensures.writes
    (said-of c.over.result (option_map edge_fault_view c.in_ok-edge_fault-in-Ok-None.field-0) inside.sampler
    c.push_rows.new.self c.over.ensures c.in_ok-push_rows-in-Ok-None.ensures.same c.in_ok-edge_fault-in-Ok-None.ensures)))

pub returns-in-Ok-None-clause-fault : goal.returns-in-Ok-None-clause-fault
returns-in-Ok-None-clause-fault g c =
    let inside = c.loop.self-inside in
    rw (← c.loop.invariant.text) (err-then c.args.self.now (left_in inside.dump inside.sampler) c.over.result
    (due_text c.loop.due) (due_text c.push_rows.new.due) c.loop.invariant.same
    (stops-over (happens_in inside.dump) (happens_in c.read.new.self) inside.sampler
    (due_text c.loop.due) (due_text c.push_rows.new.due) tt c.over.result
    (rw c.in-Ok-None.field-0-is at c.in-Ok-None.ensures.ok) c.in_ok-push_rows-in-Ok-None.ensures.writes
    (said-of c.over.result (option_map edge_fault_view c.in_ok-edge_fault-in-Ok-None.field-0) inside.sampler
    c.push_rows.new.self c.over.ensures c.in_ok-push_rows-in-Ok-None.ensures.same c.in_ok-edge_fault-in-Ok-None.ensures)))

pub returns-in-Err-clause-fault : goal.returns-in-Err-clause-fault
returns-in-Err-clause-fault g c =
    let inside = c.loop.self-inside in
    let fault = c.in-Err.fault in
    rw (← c.loop.invariant.text, c.from.ensures) (if-then c.args.self.now (left_in inside.dump inside.sampler)
    (Stops (of_dump fault) (due_text c.loop.due) (due_text c.loop.due)) c.loop.invariant.same
    (stops-reading (happens_in inside.dump) inside.sampler (due_text c.loop.due) fault
    (λ line mistake is. c.in-Err.ensures.wrong line mistake (cc))))
