-- What was written so far, appended to what there was.
use Rattle.std.proofs.Common.{rules}
use Rattle.tl_text.proofs.TextLemmas.{begins_before}
use Rattle.tl_script.proofs.Appended.{on_err, twice}
use Rattle.tl_script.proofs.print.push_origin.Goals as goal

pub returns-in_err-push_field-clause-ok : goal.returns-in_err-push_field-clause-ok
returns-in_err-push_field-clause-ok c = search rules

pub returns-in_err-push_field-clause-err : goal.returns-in_err-push_field-clause-err
returns-in_err-push_field-clause-err c =
    on_err c.from_residual.result c.in_err-push_field.ensures.err

pub returns-in_err-push_field-2-clause-ok : goal.returns-in_err-push_field-2-clause-ok
returns-in_err-push_field-2-clause-ok c = search rules

pub returns-in_err-push_field-2-clause-err : goal.returns-in_err-push_field-2-clause-err
returns-in_err-push_field-2-clause-err c =
    let b0 = twice _ _ _ _ c.in_ok-push_field.ensures.ok in
    on_err c.from_residual-in_err-push_field-2.result (begins_before _ _ _ c.in_err-push_field-2.ensures.err b0)
