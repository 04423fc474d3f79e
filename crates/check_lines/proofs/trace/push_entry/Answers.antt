-- What was written so far, appended to what there was.
use Rattle.std.proofs.Common.{[], ◌∷◌, rules}
use Rattle.tl_script.specs.Trace.{origin_text, place_text}
use Rattle.check_lines.specs.Trace.{entry_line, exchange_text}
use Rattle.tl_text.proofs.TextLemmas.{begins_appended, begins_before, begins_with_itself}
use Rattle.tl_script.proofs.Appended.{four, on_err}
use Rattle.check_lines.proofs.trace.push_entry.Goals as goal

pub returns-clause-ok : goal.returns-clause-ok
unfolding entry_line
returns-clause-ok c =
    let entry = c.args.entry.now in
    four c.args.text.now.items (origin_text c.args.master c.args.source) (exchange_text entry)
    (place_text entry.port entry.index) (10 ∷ []) _ _ _ _ c.in_ok-push_origin.ensures.ok
    c.in_ok-push_exchange.ensures.ok c.in_ok-push_place.ensures.ok c.in_ok-push.ensures.items

pub returns-in_err-push_origin-clause-ok : goal.returns-in_err-push_origin-clause-ok
returns-in_err-push_origin-clause-ok c = search rules

pub returns-in_err-push_origin-clause-err : goal.returns-in_err-push_origin-clause-err
returns-in_err-push_origin-clause-err c =
    on_err c.from_residual.result c.in_err-push_origin.ensures.err

pub returns-in_err-push_exchange-clause-ok : goal.returns-in_err-push_exchange-clause-ok
returns-in_err-push_exchange-clause-ok c = search rules

pub returns-in_err-push_exchange-clause-err : goal.returns-in_err-push_exchange-clause-err
returns-in_err-push_exchange-clause-err c =
    let b0 = begins_appended _ _ _ c.in_ok-push_origin.ensures.ok in
    on_err c.from_residual-in_err-push_exchange.result (begins_before _ _ _ c.in_err-push_exchange.ensures.err b0)

pub returns-in_err-push_place-clause-ok : goal.returns-in_err-push_place-clause-ok
returns-in_err-push_place-clause-ok c = search rules

pub returns-in_err-push_place-clause-err : goal.returns-in_err-push_place-clause-err
returns-in_err-push_place-clause-err c =
    let b0 = begins_appended _ _ _ c.in_ok-push_origin.ensures.ok in
    let b1 = begins_before _ _ _ (begins_appended _ _ _ c.in_ok-push_exchange.ensures.ok) b0 in
    on_err c.from_residual-in_err-push_place.result (begins_before _ _ _ c.in_err-push_place.ensures.err b1)

pub returns-in_err-push-clause-ok : goal.returns-in_err-push-clause-ok
returns-in_err-push-clause-ok c = search rules

pub returns-in_err-push-clause-err : goal.returns-in_err-push-clause-err
returns-in_err-push-clause-err c =
    let b0 = begins_appended _ _ _ c.in_ok-push_origin.ensures.ok in
    let b1 = begins_before _ _ _ (begins_appended _ _ _ c.in_ok-push_exchange.ensures.ok) b0 in
    let b2 = begins_before _ _ _ (begins_appended _ _ _ c.in_ok-push_place.ensures.ok) b1 in
    on_err c.from_residual-in_err-push.result (begins_before _ _ _ (begins_with_itself _ _ c.in_err-push.ensures.items) b2)
