use Rattle.std.proofs.Common.{rules, ◌≡◌, ◌<◌, ◌≤◌, Some, length, slice_get, ⊎_elim, arith}
use Rattle.std.proofs.lemmas.Bool.{cases_lt}
use Rattle.std.proofs.lemmas.List.{length-map}
use Rattle.std.proofs.lemmas.Option.{slice_get_read}
use Rattle.tl_journal.specs.Trace.{entries_in}
use Rattle.tl_audit.specs.Agrees.{IsRecorded, journals_in}
use Rattle.tl_audit.proofs.Entries.{entry_in, has_master, of_all, trace_at}
use Rattle.tl_audit.proofs.lists.check_recorded.Goals as goal

pub loop-master-preserved : goal.loop-master-preserved
loop-master-preserved c m k e below has = ⊎_elim
    (λ (earlier : m < c.loop-master.master). c.loop-master.invariant m k e earlier has)
    (λ (later : c.loop-master.master ≤ m).
    let last : m ≡ c.loop-master.master = omega arith in
    let here : slice_get c.args.traces.now c.loop-master.master ≡ Some c.index-traces-master.result =
    search (rules, slice_get_read) in
    let at = entry_in (entries_in c.args.traces.now) c.loop-master.master k c.index-traces-master.result.items e
    (trace_at c.args.traces.now c.loop-master.master c.index-traces-master.result here) (rw last at has) in
    rw last (of_all (IsRecorded c.args.sources.now
    (journals_in c.args.histories.now) c.loop-master.master) c.index-traces-master.result.items k e at
    c.in_default.ensures.none))
    (cases_lt m c.loop-master.master)

pub returns-clause-ok : goal.returns-clause-ok
returns-clause-ok c m k e has =
    let lengths : length (entries_in c.args.traces.now) ≡ length c.args.traces.now = search (rules, length-map) in
    let within = has_master (entries_in c.args.traces.now) m k e has in
    c.loop-master.invariant m k e (omega arith) has
