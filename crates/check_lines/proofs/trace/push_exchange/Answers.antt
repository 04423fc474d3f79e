-- What was written so far, appended to what there was.
use Rattle.std.proofs.Common.{rules, append_assoc}
use Rattle.std.proofs.lemmas.Result.{on_err_weaker}
use Rattle.tl_text.proofs.TextLemmas.{begins_appended, begins_before, begins_with_itself}
use Rattle.tl_script.proofs.Appended.{on_err}
use Rattle.check_lines.proofs.trace.push_exchange.Goals as goal

pub returns-in_err-push_sent-clause-ok : goal.returns-in_err-push_sent-clause-ok
returns-in_err-push_sent-clause-ok c = search rules

pub returns-in_err-push_sent-clause-err : goal.returns-in_err-push_sent-clause-err
returns-in_err-push_sent-clause-err c =
    on_err c.from_residual.result c.in_err-push_sent.ensures.err

pub returns-in_err-extend_from_slice-clause-ok : goal.returns-in_err-extend_from_slice-clause-ok
returns-in_err-extend_from_slice-clause-ok c = search rules

pub returns-in_err-extend_from_slice-clause-err : goal.returns-in_err-extend_from_slice-clause-err
returns-in_err-extend_from_slice-clause-err c =
    let b0 = begins_appended _ _ _ c.in_ok-push_sent.ensures.ok in
    on_err c.from_residual-in_err-extend_from_slice.result (begins_before _ _ _ (begins_with_itself _ _ c.in_err-extend_from_slice.ensures.items) b0)

pub returns-clause-err : goal.returns-clause-err
returns-clause-err c =
    let b0 = begins_appended _ _ _ c.in_ok-push_sent.ensures.ok in
    let b1 = begins_before _ _ _ (begins_appended _ _ _ c.in_ok-extend_from_slice.ensures.items) b0 in
    on_err_weaker c.push_pattern.result (λ after. begins_before _ _ _ after b1) c.push_pattern.ensures.err

pub returns-clause-ok : goal.returns-clause-ok
returns-clause-ok c = search (rules, append_assoc)
