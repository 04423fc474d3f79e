use Rattle.tl_journal.specs.Trace.{entries_in}
use Rattle.tl_audit.specs.Agrees.{journals_in}
use Rattle.tl_audit.specs.Marks.{rows_in}
use Rattle.tl_audit.proofs.Judging.{again, never, once}
use Rattle.tl_audit.proofs.lists.audit_lists.Goals as goal

pub returns-in-Some-clause-fault : goal.returns-in-Some-clause-fault
returns-in-Some-clause-fault c =
    again (entries_in c.args.traces.now) (journals_in c.args.histories.now)
    (rows_in c.in_ok-rows.rows.items) c.in_ok-rows.ensures c.in-Some.port c.in-Some.index
    (rw c.deref.ensures.value at c.in-Some.ensures.found)

pub returns-in-Some-first_marked-clause-fault : goal.returns-in-Some-first_marked-clause-fault
returns-in-Some-first_marked-clause-fault c =
    never (entries_in c.args.traces.now) (journals_in c.args.histories.now)
    (rows_in c.in_ok-rows.rows.items) c.in_ok-rows.ensures c.in-Some-first_marked.port
    c.in-Some-first_marked.index (rw c.deref-2.ensures.value at c.in-Some-first_marked.ensures.found)

pub returns-clause-ok : goal.returns-clause-ok
returns-clause-ok c = record {
  recorded = c.in_ok-check_recorded.ensures.ok;
  once = once (entries_in c.args.traces.now) (journals_in c.args.histories.now)
      (rows_in c.in_ok-rows.rows.items) c.in_ok-rows.ensures
      (rw c.deref.ensures.value at c.in_default.ensures.none)
      (rw c.deref-2.ensures.value at c.in_default-first_marked.ensures.none);
  ordered = c.in_ok-check_order.ensures.ok;
}
