-- The header and the rows were written.
use Rattle.std.proofs.Common.{◌≡◌, ◌∙◌, List, ℕ, subst}
use Rattle.std.specs.Option.{IfSome}
use Rattle.check_waves.specs.Out.{IsPushed}
use Rattle.check_waves.proofs.Header.{header_is}
use Rattle.check_rows.specs.Column.{header_line}
use Rattle.check_waves.proofs.OutLemmas.{out-none, out-some}
use Rattle.check_waves.proofs.engine.write_left.Goals as goal

pub returns-in_err-text-clause-written : goal.returns-in_err-text-clause-written
returns-in_err-text-clause-written g c =
    out-none c.args.rows.now c.from_residual.result (g.W.Write.contents c.args.writer.now.writer.now) header_line
    c.from_residual.ensures.1

pub returns-clause-written : goal.returns-clause-written
returns-clause-written g c =
    let contents = g.W.Write.contents in
    let old = contents c.args.writer.now.writer.now in
    let mid = contents c.push_rows-answer.new.writer.writer.now in
    let answer = c.push_rows-answer.result in
    let rest = c.push_rows-answer.new.text.items in
    let is : c.extend_from_slice.new.self.items ≡ header_line =
    (rw c.in_ok-text.ensures.items at c.in_ok-extend_from_slice.ensures.items) ∙ header_is in
    out-some c.args.rows.now answer c.finish.result header_line rest old mid (contents c.finish.new.writer.writer.now)
    (subst (λ (text : List ℕ). IfSome c.args.rows.now (λ left. IsPushed answer left text rest old mid)) is
    c.push_rows-answer.ensures.pushed)
    (rw c.deref.ensures.value at c.finish.ensures.finishes)

pub returns-in_err-extend_from_slice-clause-written : goal.returns-in_err-extend_from_slice-clause-written
returns-in_err-extend_from_slice-clause-written g c =
    out-none c.args.rows.now c.from_residual-in_err-extend_from_slice.result (g.W.Write.contents c.args.writer.now.writer.now)
    header_line c.from_residual-in_err-extend_from_slice.ensures.1
