-- What was written so far, appended to what there was.
use Rattle.std.proofs.Common.{◌≡◌, ◌++◌, [], ◌∷◌, rules}
use Rattle.tl_script.specs.Trace.{message_text, origin_text, place_text, trace_line}
use Rattle.tl_text.proofs.TextLemmas.{begins_appended, begins_before, begins_with_itself}
use Rattle.tl_script.proofs.Appended.{four, on_err}
use Rattle.tl_script.proofs.print.push_entry.Goals as goal

pub returns-clause-ok : goal.returns-clause-ok
unfolding trace_line
returns-clause-ok c =
    let origin : c.push_origin.new.text.items ≡ c.args.text.now.items ++ origin_text c.args.master c.args.ask.now.source =
    rw (← c.source.ensures) c.in_ok-push_origin.ensures.ok in
    four c.args.text.now.items (origin_text c.args.master c.args.ask.now.source) (message_text c.args.ask.now c.args.reply.now)
    (place_text c.args.port c.args.index) (10 ∷ []) _ _ _ _ origin
    c.in_ok-push_message.ensures.ok c.in_ok-push_place.ensures.ok c.in_ok-push.ensures.items

pub returns-in_err-push_origin-clause-ok : goal.returns-in_err-push_origin-clause-ok
returns-in_err-push_origin-clause-ok c = search rules

pub returns-in_err-push_origin-clause-err : goal.returns-in_err-push_origin-clause-err
returns-in_err-push_origin-clause-err c =
    on_err c.from_residual.result c.in_err-push_origin.ensures.err

pub returns-in_err-push_message-clause-ok : goal.returns-in_err-push_message-clause-ok
returns-in_err-push_message-clause-ok c = search rules

pub returns-in_err-push_message-clause-err : goal.returns-in_err-push_message-clause-err
returns-in_err-push_message-clause-err c =
    let b0 = begins_appended _ _ _ c.in_ok-push_origin.ensures.ok in
    on_err c.from_residual-in_err-push_message.result (begins_before _ _ _ c.in_err-push_message.ensures.err b0)

pub returns-in_err-push_place-clause-ok : goal.returns-in_err-push_place-clause-ok
returns-in_err-push_place-clause-ok c = search rules

pub returns-in_err-push_place-clause-err : goal.returns-in_err-push_place-clause-err
returns-in_err-push_place-clause-err c =
    let b0 = begins_appended _ _ _ c.in_ok-push_origin.ensures.ok in
    let b1 = begins_before _ _ _ (begins_appended _ _ _ c.in_ok-push_message.ensures.ok) b0 in
    on_err c.from_residual-in_err-push_place.result (begins_before _ _ _ c.in_err-push_place.ensures.err b1)

pub returns-in_err-push-clause-ok : goal.returns-in_err-push-clause-ok
returns-in_err-push-clause-ok c = search rules

pub returns-in_err-push-clause-err : goal.returns-in_err-push-clause-err
returns-in_err-push-clause-err c =
    let b0 = begins_appended _ _ _ c.in_ok-push_origin.ensures.ok in
    let b1 = begins_before _ _ _ (begins_appended _ _ _ c.in_ok-push_message.ensures.ok) b0 in
    let b2 = begins_before _ _ _ (begins_appended _ _ _ c.in_ok-push_place.ensures.ok) b1 in
    on_err c.from_residual-in_err-push.result (begins_before _ _ _ (begins_with_itself _ _ c.in_err-push.ensures.items) b2)
