-- What was written so far, appended to what there was.
use Rattle.std.proofs.Common.{rules, append_assoc}
use Rattle.std.proofs.lemmas.Result.{on_err_weaker}
use Rattle.tl_text.proofs.TextLemmas.{begins_appended, begins_before, begins_with_itself}
use Rattle.tl_script.proofs.Appended.{on_err}
use Rattle.tl_script.proofs.print.push_target.Goals as goal

pub returns-in_err-extend_from_slice-clause-ok : goal.returns-in_err-extend_from_slice-clause-ok
returns-in_err-extend_from_slice-clause-ok c = search rules

pub returns-in_err-extend_from_slice-clause-err : goal.returns-in_err-extend_from_slice-clause-err
returns-in_err-extend_from_slice-clause-err c =
    on_err c.from_residual.result (begins_with_itself _ _ c.in_err-extend_from_slice.ensures.items)

pub returns-in_err-extend_from_slice-2-clause-ok : goal.returns-in_err-extend_from_slice-2-clause-ok
returns-in_err-extend_from_slice-2-clause-ok c = search rules

pub returns-in_err-extend_from_slice-2-clause-err : goal.returns-in_err-extend_from_slice-2-clause-err
returns-in_err-extend_from_slice-2-clause-err c =
    let b0 = begins_appended _ _ _ c.in_ok-extend_from_slice.ensures.items in
    on_err c.from_residual-in_err-extend_from_slice-2.result (begins_before _ _ _ (begins_with_itself _ _ c.in_err-extend_from_slice-2.ensures.items) b0)

pub returns-in_err-push_hex-clause-ok : goal.returns-in_err-push_hex-clause-ok
returns-in_err-push_hex-clause-ok c = search rules

pub returns-in_err-push_hex-clause-err : goal.returns-in_err-push_hex-clause-err
returns-in_err-push_hex-clause-err c =
    let b0 = begins_appended _ _ _ c.in_ok-extend_from_slice.ensures.items in
    let b1 = begins_before _ _ _ (begins_appended _ _ _ c.in_ok-extend_from_slice-2.ensures.items) b0 in
    on_err c.from_residual-in_err-push_hex.result (begins_before _ _ _ c.in_err-push_hex.ensures.err b1)

pub returns-clause-err : goal.returns-clause-err
returns-clause-err c =
    let b0 = begins_appended _ _ _ c.in_ok-extend_from_slice.ensures.items in
    let b1 = begins_before _ _ _ (begins_appended _ _ _ c.in_ok-extend_from_slice-2.ensures.items) b0 in
    let b2 = begins_before _ _ _ (begins_appended _ _ _ c.in_ok-push_hex.ensures.ok) b1 in
    on_err_weaker c.push_field.result (λ after. begins_before _ _ _ after b2) c.push_field.ensures.err

pub returns-clause-ok : goal.returns-clause-ok
returns-clause-ok c = search (rules, append_assoc)
