use Rattle.std.proofs.Common.{Some, refl, arith}
use Rattle.std.proofs.lemmas.Bool.{false≢true}
use Rattle.std.proofs.lemmas.Option.{slice_get_within}
use Rattle.tl_audit.specs.Marks.{rows_in}
use Rattle.tl_audit.proofs.Ordering.{cells_more, ordered_more, out_of_order}
use Rattle.tl_audit.proofs.order.first_out_of_order.Goals as goal

pub returns-then-is_at_least-clause-found : goal.returns-then-is_at_least-clause-found
returns-then-is_at_least-clause-found c =
    out_of_order c.args.trace.now.items c.loop-place.place c.read.new.entry c.last.result
    (rows_in c.loop-place.lasts) c.read.ensures c.loop-place.invariant.0
    (rw c.source-source.ensures at c.last.ensures) (c.if-is_at_least.ensures.0 refl)

pub loop-place-preserved : goal.loop-place-preserved
loop-place-preserved c =
    let put = rw c.source-source.ensures at c.keep.ensures in (
      ordered_more c.args.trace.now.items c.loop-place.place c.read.new.entry (rows_in c.loop-place.lasts)
          (rows_in c.keep.new.lasts) c.last.result c.read.ensures
          c.loop-place.invariant.0 (rw c.source-source.ensures at c.last.ensures)
          (λ large. false≢true (c.if-is_at_least.ensures.1 large)) put,
      cells_more c.args.trace.now.items c.read.new.entry.port c.read.new.entry.ask.source (Some c.read.new.entry.index)
          (rows_in c.loop-place.lasts) (rows_in c.keep.new.lasts) put c.loop-place.invariant.1,
    )

pub returns-clause-none : goal.returns-clause-none
returns-clause-none c k wrong =
    let within = slice_get_within c.args.trace.now.items k wrong.later wrong.at in
    c.loop-place.invariant.0.ordered k (omega arith) wrong
