use Rattle.std.proofs.Common.{◌≡◌, ◌∙◌, ◌+◌, ◌<◌, length, take, drop, get_or, None, sym, ap, arith}
use Rattle.std.proofs.lemmas.List.{length-take-le, length-drop, get_or-take, get_or-drop}
use Rattle.tl_types.specs.declared.operation.AskOp.TheVariants.{PutPartial}
use Rattle.tl_ops.specs.declared.kind.Kind.TheVariants.{ClearRegs}
use Rattle.check_memory.specs.Cells.{clear_cell, put_cells}
use Rattle.check_memory.proofs.PageCells.{get_or-put_cells}
use Rattle.check_memory.proofs.PagePlaces.{length-new_cells}
use Rattle.check_memory.proofs.Replaced.{replaced_by_places}
use Rattle.check_memory.proofs.sheet.Sheet.clear.Goals as goal

pub returns-clause-after : goal.returns-clause-after
returns-clause-after c =
    let cells = c.args.self.now in
    let given = c.args.given.now in
    let start = c.args.start in
    let n = length given in
    let all : c.loop-k.k ≡ n =
    omega (arith, c.len-k-end.ensures.value, c.loop-k.auto.k-end, c.loop-k-test.false) in
    let old = take n (drop start cells) in
    let new = put_cells ClearRegs old given in
    let wide : n ≡ length old =
    sym (length-take-le n (drop start cells) (omega (arith, c.requires.inside, length-drop start cells))) in
    let counted : length new ≡ n = length-new_cells ClearRegs PutPartial old given wide ∙ sym wide in
    replaced_by_places cells c.loop-k.self new start (omega (arith, counted, c.requires.inside)) c.loop-k.invariant.0
    (λ j below.
    let in' : j < n = omega (arith, below, counted) in
    let was : get_or old j None ≡ get_or cells (start + j) None =
    get_or-take n (drop start cells) j None in' ∙ get_or-drop start cells j None in
    c.loop-k.invariant.1 j (omega (arith, in', all))
    ∙ ap (λ cell. clear_cell cell (get_or given j None)) (sym was)
    ∙ sym (get_or-put_cells old given j wide (omega (arith, in', wide))))
    (λ place beside. c.loop-k.invariant.2 place (rw (counted ∙ sym all) at beside))
