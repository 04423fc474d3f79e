-- One more byte is printed.
use Rattle.std.proofs.Common.{◌∙◌, ◌++◌, ap, append-nil, append_assoc, flat_map, sym, take}
use Rattle.tl_script.specs.Data.{byte_text}
use Rattle.tl_script.proofs.Appended.{on_err}
use Rattle.tl_script.proofs.Lines.{text_more}
use Rattle.tl_text.proofs.TextLemmas.{begins_appended, begins_before, begins_with_itself}
use Rattle.tl_script.proofs.print.push_data.Goals as goal

pub returns-in_err-push-clause-err : goal.returns-in_err-push-clause-err
returns-in_err-push-clause-err c =
    on_err c.from_residual.result (begins_with_itself _ _ c.in_err-push.ensures.items)

pub returns-in_err-push_byte-clause-err : goal.returns-in_err-push_byte-clause-err
returns-in_err-push_byte-clause-err c =
    on_err c.from_residual-in_err-push_byte.result
    (begins_before _ _ _ c.in_err-push_byte.ensures.err c.loop-place.invariant.1)

pub loop-place-init : goal.loop-place-init
loop-place-init c = (sym (append-nil _), begins_appended _ _ _ c.in_ok-push.ensures.items)

pub loop-place-preserved : goal.loop-place-preserved
loop-place-preserved c =
    let bytes = c.args.bytes.now in
    let place = c.loop-place.place in
    let front = c.push.new.self.items in
    let byte = byte_text c.get.result in
    let before = flat_map byte_text (take place bytes) in (
      c.in_ok-push_byte.ensures.ok ∙ ap (λ text. text ++ byte) c.loop-place.invariant.0
          ∙ append_assoc front before byte
          ∙ ap (λ more. front ++ more) (sym (text_more byte_text bytes place c.get.result c.get.ensures)),
      begins_before _ _ _ (begins_appended _ _ _ c.in_ok-push_byte.ensures.ok) c.loop-place.invariant.1,
    )
