-- One more line is appended, that of the first entry that is left.
use Rattle.std.proofs.Common.{◌∙◌, ◌+◌, ◌++◌, append_assoc, ap, arith, drop, refl, sym}
use Rattle.tl_script.specs.History.{history_from, history_line}
use Rattle.tl_text.proofs.TextLemmas.{begins_appended, begins_before, begins_with_itself}
use Rattle.tl_text.specs.Text.{BeginsWith}
use Rattle.tl_script.proofs.Appended.{on_err}
use Rattle.tl_script.proofs.Lines.{drop_at, history_done}
use Rattle.tl_script.proofs.history.push_history.Goals as goal

pub loop-index-preserved : goal.loop-index-preserved
loop-index-preserved c =
    let history = c.args.history.now.items in
    let place = c.loop-index.index in
    let first = drop_at history place (c.read.new.ask, c.read.new.reply) c.read.ensures in
    let line = history_line c.args.port place (c.read.new.ask, c.read.new.reply) in
    let rest = history_from c.args.port (place + 1) (drop (place + 1) history) in
    let one_more : BeginsWith c.loop-index.text.items c.push_line.new.text.items =
    begins_appended _ _ _ c.in_ok-push_line.ensures.ok in (
      ap (λ text. text ++ rest) c.in_ok-push_line.ensures.ok ∙ append_assoc c.loop-index.text.items line rest
          ∙ ap (λ left. c.loop-index.text.items ++ history_from c.args.port place left) (sym first)
          ∙ c.loop-index.invariant.0,
      begins_before _ _ _ one_more c.loop-index.invariant.1,
    )

pub loop-index-init : goal.loop-index-init
loop-index-init c = (refl, begins_with_itself _ _ refl)

pub returns-in_err-push_line-clause-err : goal.returns-in_err-push_line-clause-err
returns-in_err-push_line-clause-err c =
    on_err c.from_residual.result (begins_before _ _ _ c.in_err-push_line.ensures.err c.loop-index.invariant.1)

pub returns-clause-ok : goal.returns-clause-ok
returns-clause-ok c =
    history_done c.args.port c.loop-index.index c.args.history.now.items c.loop-index.text.items _
    (omega (arith, c.loop-index-test.false, c.len-index-end.ensures.value)) c.loop-index.invariant.0
