-- The link is watched, and there is a limit.
use Rattle.std.proofs.Common.{◌≡◌, ◌∙◌, false, ap, sym, subst}
use Rattle.std.proofs.lemmas.Bool.{true≢false}
use Rattle.std.proofs.lemmas.Option.{none-some, same_Some}
use Rattle.check_sides.specs.Plan.{Layout}
use Rattle.check_rows.specs.Row.{row_with}
use Rattle.check_review.specs.Waiting.{WaitsView}
use Rattle.check_review.specs.Waiting.{is_late_reply, waiting_in}
use Rattle.check_review.specs.Order.{is_watched}
use Rattle.check_review.proofs.Watched.{watches_by}
use Rattle.check_review.proofs.tally.Tally.begins_late_reply.Goals as goal

pub returns-in-Some-clause-known : goal.returns-in-Some-clause-known
returns-in-Some-clause-known c = λ late. (c.watches.ensures.0 c.if-not-watches.false).0

pub returns-in-Some-clause-watched : goal.returns-in-Some-clause-watched
returns-in-Some-clause-watched c = λ late. (c.watches.ensures.0 c.if-not-watches.false).1

pub returns-then-not-watches-clause-late : goal.returns-then-not-watches-clause-late
returns-then-not-watches-clause-late c = λ limit plan past rows lanes keeps here lawful same.
    let link = c.args.row.now.link in
    let other : is_watched plan.layout link ≡ false =
    subst (λ (l : Layout). is_watched l link ≡ false) keeps.suits.layout
    (sym (watches_by c.args.self.now.watch.layout link c.watches.result c.watches.ensures) ∙ c.if-not-watches.true) in
    absurd (true≢false (sym here ∙ other))

pub returns-in-Some-clause-late : goal.returns-in-Some-clause-late
returns-in-Some-clause-late c = λ limit plan past rows lanes keeps here lawful same.
    let row = row_with c.args.row.now lanes in
    let is : c.in-Some.waits ≡ record { limit = limit; requests = waiting_in plan rows } =
    same_Some _ _ (sym c.in-Some.is ∙ same) in
    c.is_late_reply.ensures plan rows lanes (c.beats.ensures.layout ∙ keeps.suits.layout) keeps.suits.lawful lawful.beats
    (ap (λ (w : WaitsView). w.requests) is)
    ∙ ap (λ l. is_late_reply l plan rows row) (ap (λ (w : WaitsView). w.limit) is)

pub returns-in-None-clause-late : goal.returns-in-None-clause-late
returns-in-None-clause-late c = λ limit plan past rows lanes keeps here lawful same.
    absurd (none-some _ (sym c.in-None.is ∙ same))
