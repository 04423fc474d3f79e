use Rattle.std.proofs.Common.{rules, ◌≡◌, ◌<◌, ◌≤◌, Some, length, slice_get, ⊎_elim, arith}
use Rattle.std.proofs.lemmas.List.{length-map}
use Rattle.std.proofs.lemmas.Bool.{cases_lt}
use Rattle.std.proofs.lemmas.Option.{slice_get_read}
use Rattle.tl_audit.specs.Marks.{rows_in}
use Rattle.tl_audit.proofs.Cells.{cell_within, row_at}
use Rattle.tl_audit.proofs.marks.first_marked.Goals as goal

pub loop-port-preserved : goal.loop-port-preserved
loop-port-preserved c port index below is = ⊎_elim
    (λ (earlier : port < c.loop-port.port). c.loop-port.invariant port index earlier is)
    (λ (last : c.loop-port.port ≤ port).
    let same : port ≡ c.loop-port.port = omega arith in
    let here : slice_get c.args.rows.now c.loop-port.port ≡ Some c.index-rows-port.result =
    search (rules, slice_get_read) in
    let row = row_at c.args.rows.now c.loop-port.port c.index-rows-port.result here in
    c.in_default.ensures.none index (rw c.deref.ensures.value (rw (same, row) at is)))
    (cases_lt port c.loop-port.port)

pub returns-clause-none : goal.returns-clause-none
returns-clause-none c port index is =
    let within = cell_within (rows_in c.args.rows.now) port index c.args.mark is in
    let lengths : length (rows_in c.args.rows.now) ≡ length c.args.rows.now = search (rules, length-map) in
    c.loop-port.invariant port index (omega arith) is
