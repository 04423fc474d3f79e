-- What was written so far, appended to what there was.
use Rattle.std.proofs.Common.{rules, append_assoc}
use Rattle.std.proofs.lemmas.Result.{on_err_weaker}
use Rattle.tl_text.proofs.TextLemmas.{begins_before}
use Rattle.tl_script.proofs.Appended.{on_err, twice}
use Rattle.tl_script.proofs.print.push_place.Goals as goal

pub returns-in_err-push_field-clause-ok : goal.returns-in_err-push_field-clause-ok
returns-in_err-push_field-clause-ok c = search rules

pub returns-in_err-push_field-clause-err : goal.returns-in_err-push_field-clause-err
returns-in_err-push_field-clause-err c =
    on_err c.from_residual.result c.in_err-push_field.ensures.err

pub returns-clause-err : goal.returns-clause-err
returns-clause-err c =
    let b0 = twice _ _ _ _ c.in_ok-push_field.ensures.ok in
    on_err_weaker c.push_field-2.result (λ after. begins_before _ _ _ after b0) c.push_field-2.ensures.err

pub returns-clause-ok : goal.returns-clause-ok
returns-clause-ok c = search (rules, append_assoc)
