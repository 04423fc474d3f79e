-- A request begins that did not wait.
use Rattle.std.proofs.Common.{◌≡◌, ◌∙◌, ◌++◌, [], ◌∷◌, Bool, false, cond, ap, sym}
use Rattle.std.specs.List.{list_any}
use Rattle.check_watch.specs.declared.beat.Beat.{Beat}
use Rattle.check_rows.specs.Row.{row_with}
use Rattle.check_review.specs.declared.waiting.Waiting.{Waiting}
use Rattle.check_review.specs.Waiting.{is_waiting_of, waiting_after, waiting_from}
use Rattle.check_review.proofs.waiting.note_beat.Goals as goal

pub returns-in_ok-push-in-A : goal.returns-in_ok-push-in-A
returns-in_ok-push-in-A c = λ lanes.
    let row = row_with c.args.row.now lanes in
    let wide = c.args.wide in
    let before = c.args.requests.now.items in
    let none : list_any (is_waiting_of wide) before ≡ false =
    ap (list_any (is_waiting_of wide)) (sym c.deref.ensures.value) ∙ sym c.is_waiting.ensures ∙ c.if-is_waiting.false in
    c.in_ok-push-in-A.ensures.items ∙ ap (λ (w : Waiting). before ++ w ∷ []) (c.from_row.ensures lanes)
    ∙ sym (ap (λ (b : Bool). cond b before (before ++ waiting_from wide row ∷ [])) none)
    ∙ sym (ap (λ (beat : Beat). waiting_after wide row beat before) c.in-A.is)
