use Rattle.std.proofs.Common.{rules, ◌≡◌, ◌<◌, ◌≤◌, Some, length, slice_get, ⊎_elim, arith}
use Rattle.std.proofs.lemmas.Bool.{cases_lt}
use Rattle.std.proofs.lemmas.List.{length-map}
use Rattle.std.proofs.lemmas.Option.{slice_get_read, slice_get_within}
use Rattle.tl_journal.specs.Trace.{entries_in}
use Rattle.tl_map.proofs.Counted.{below_count}
use Rattle.tl_audit.specs.Agrees.{HasEntry, journals_in}
use Rattle.tl_audit.proofs.Cells.{cell_within}
use Rattle.tl_audit.proofs.Entries.{trace_at}
use Rattle.tl_audit.proofs.lists.check_order.Goals as goal

pub first_disordered-requires : goal.first_disordered-requires
first_disordered-requires c k e at =
    let here : slice_get c.args.traces.now c.loop-master.master ≡ Some c.index-traces-master.result =
    search (rules, slice_get_read) in
    let row = trace_at c.args.traces.now c.loop-master.master c.index-traces-master.result here in
    let has : HasEntry (entries_in c.args.traces.now) c.loop-master.master k e = rw row at in
    let recorded = c.requires c.loop-master.master k e has in
    let lengths : length (journals_in c.args.histories.now) ≡ length c.args.histories.now =
    search (rules, length-map) in
    let within = cell_within (journals_in c.args.histories.now) e.port e.index _ recorded.at in (
      rw lengths at within,
      below_count c.args.sources.now c.loop-master.master e.ask.source recorded.wide recorded.is,
    )

pub returns-in-Some-clause-fault : goal.returns-in-Some-clause-fault
returns-in-Some-clause-fault c =
    let here : slice_get c.args.traces.now c.loop-master.master ≡ Some c.index-traces-master.result =
    search (rules, slice_get_read) in
    let row = trace_at c.args.traces.now c.loop-master.master c.index-traces-master.result here in
    rw row (rw c.in-Some.is at c.in_ok-first.ensures.found)

pub loop-master-preserved : goal.loop-master-preserved
loop-master-preserved c m trace below there = ⊎_elim
    (λ (earlier : m < c.loop-master.master). c.loop-master.invariant m trace earlier there)
    (λ (later : c.loop-master.master ≤ m).
    let last : m ≡ c.loop-master.master = omega arith in
    let here : slice_get c.args.traces.now c.loop-master.master ≡ Some c.index-traces-master.result =
    search (rules, slice_get_read) in
    let row = trace_at c.args.traces.now c.loop-master.master c.index-traces-master.result here in
    let same : c.index-traces-master.result.items ≡ trace = let there_last = rw last at there in cc in
    rw (← same) (rw c.in_default.is at c.in_ok-first.ensures.none))
    (cases_lt m c.loop-master.master)

pub returns-clause-ok : goal.returns-clause-ok
returns-clause-ok c m trace there =
    let lengths : length (entries_in c.args.traces.now) ≡ length c.args.traces.now = search (rules, length-map) in
    let within = slice_get_within (entries_in c.args.traces.now) m trace there in
    c.loop-master.invariant m trace (omega arith) there
