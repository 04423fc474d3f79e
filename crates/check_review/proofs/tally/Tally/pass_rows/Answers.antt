-- The moment has one row.
use Rattle.std.proofs.Common.{◌≡◌, true, IfOk, length, sym, subst, arith}
use Rattle.check_rows.specs.Row.{row_with}
use Rattle.check_review.specs.View.{KeepsOn, wants}
use Rattle.check_review.proofs.Keeping.{alone, if_err, row_at, wants_there}
use Rattle.check_review.proofs.tally.Tally.pass_rows.Goals as goal

pub returns-clause-keeps : goal.returns-clause-keeps
returns-clause-keeps c system before course text kept =
    let rows = c.args.moment.now.rows in
    let row = row_with c.get.result.0.now c.get.result.1.now in
    let one : length rows ≡ 1 = omega (arith, c.if-len-ne1.false, c.len.ensures.value) in
    let here = row_at rows 0 c.get.result.0.now c.get.result.1.now c.get.ensures.lanes c.get.ensures.row in
    subst (λ l. IfOk c.pass.result (λ passed. passed ≡ true
    → KeepsOn system before course l c.args.self.now.trace c.pass.new.self text text))
    (sym (alone rows before row one here)) (c.pass.ensures.keeps system before course text kept)

pub returns-clause-memory : goal.returns-clause-memory
returns-clause-memory c system before course kept =
    let rows = c.args.moment.now.rows in
    let row = row_with c.get.result.0.now c.get.result.1.now in
    let one : length rows ≡ 1 = omega (arith, c.if-len-ne1.false, c.len.ensures.value) in
    let here = row_at rows 0 c.get.result.0.now c.get.result.1.now c.get.ensures.lanes c.get.ensures.row in
    if_err c.pass.result (wants_there (wants c.args.self.now) system rows before 0 row (omega (arith, one)) here course)
    (c.pass.ensures.memory system before course kept)
