-- The head line, and those of all bins.
use Rattle.std.proofs.lemmas.Result.{on_err_weaker}
use Rattle.tl_text.proofs.TextLemmas.{begins_appended, begins_before, begins_with_itself}
use Rattle.check_bins.proofs.Telling.{counts_told, on_err}
use Rattle.check_bins.proofs.counts.Counts.append.Goals as goal

pub returns-clause-told : goal.returns-clause-told
returns-clause-told c = λ all counted.
    counts_told c.args.self.now all c.args.ports c.args.text.now.items c.extend_from_slice.new.self.items
    c.append_lines.new.text.items c.append_lines.result counted c.in_ok-extend_from_slice.ensures.items
    c.append_lines.ensures.told c.append_lines.ensures.ordered

pub returns-in_err-extend_from_slice-clause-err : goal.returns-in_err-extend_from_slice-clause-err
returns-in_err-extend_from_slice-clause-err c =
    on_err c.from_residual.result (begins_with_itself _ _ c.in_err-extend_from_slice.ensures.items)

pub returns-clause-err : goal.returns-clause-err
returns-clause-err c =
    let head = begins_appended _ _ _ c.in_ok-extend_from_slice.ensures.items in
    on_err_weaker c.append_lines.result (λ after. begins_before _ _ _ after head) c.append_lines.ensures.err
