-- A row is noted where messages are counted.
use Rattle.std.proofs.Common.{◌≡◌, ◌∙◌, ◌∷◌, ℕ, true, false, cond, List, Some, ap, sym, subst}
use Rattle.std.specs.Prelude.{◌↔◌, OnOk}
use Rattle.std.proofs.lemmas.Option.{none-some, same_Some}
use Rattle.tl_map.specs.Owner.{IsWideSource}
use Rattle.check_watch.specs.declared.links.Links.{Links}
use Rattle.check_sides.specs.Plan.{Layout}
use Rattle.check_rows.specs.Row.{beats_of, row_with}
use Rattle.check_coverage.specs.Flights.{is_counted, wide_at}
use Rattle.check_coverage.proofs.Lawful.{found_wide}
use Rattle.check_review.specs.declared.waiting.Waiting.{Waiting}
use Rattle.check_review.specs.Waiting.{WaitsView}
use Rattle.check_review.specs.Waiting.{waiting_after, waiting_in}
use Rattle.check_review.proofs.waits.Waits.note.Goals as goal

pub returns-then-not-is_counted-clause-noted : goal.returns-then-not-is_counted-clause-noted
returns-then-not-is_counted-clause-noted c = λ plan rows lanes layout is_plan lawful same.
    let row = row_with c.args.row.now lanes in
    let links : c.links.result ≡ plan.layout.links = c.links.ensures ∙ ap (λ (l : Layout). l.links) layout in
    let other : is_counted plan.layout.links row.sighting.link ≡ false =
    ap (λ (l : Links). is_counted l row.sighting.link) (sym links) ∙ sym c.is_counted.ensures ∙ c.if-not-is_counted.true in
    same ∙ sym (ap (λ b. cond b (waiting_after (wide_at plan row.sighting) row row.sighting.beat (waiting_in plan rows))
    (waiting_in plan rows)) other)

pub returns-in-Some-clause-noted : goal.returns-in-Some-clause-noted
returns-in-Some-clause-noted c = λ plan rows lanes layout is_plan lawful same.
    let row = row_with c.args.row.now lanes in
    let link = c.args.row.now.link in
    let links : c.links.result ≡ plan.layout.links = c.links.ensures ∙ ap (λ (l : Layout). l.links) layout in
    let owners : c.sources.result.now ≡ plan.layout.owners = c.sources.ensures ∙ ap (λ (l : Layout). l.owners) layout in
    let counted : is_counted plan.layout.links link ≡ true =
    ap (λ (l : Links). is_counted l link) (sym links) ∙ sym c.is_counted.ensures ∙ c.if-not-is_counted.false in
    let found : c.wide_source_at.result ≡ Some (wide_at plan row.sighting) =
    found_wide plan (beats_of rows) row.sighting is_plan lawful counted c.sources.result.now c.wide_source_at.result owners
    (λ number wide is. subst (λ (s : ℕ). (c.wide_source_at.result ≡ Some wide) ↔ IsWideSource c.sources.result.now number s wide)
    c.source.ensures (c.wide_source_at.ensures.master number wide is))
    (λ number is. c.wide_source_at.ensures.port number is ∙ ap (λ (s : ℕ). Some s) c.source.ensures) in
    let wide : c.in-Some.wide ≡ wide_at plan row.sighting =
    same_Some c.in-Some.wide (wide_at plan row.sighting) (sym c.in-Some.is ∙ found) in
    let after : List Waiting → List Waiting =
    λ requests. waiting_after (wide_at plan row.sighting) row row.sighting.beat requests in
    let kept : c.self.inside.requests.items ≡ waiting_in plan rows = ap (λ (w : WaitsView). w.requests) c.self.view_is ∙ same in
    let is : waiting_after c.in-Some.wide row row.sighting.beat c.self.inside.requests.items ≡ waiting_in plan (row ∷ rows) =
    ap (λ w. waiting_after w row row.sighting.beat c.self.inside.requests.items) wide ∙ ap after kept
    ∙ sym (ap (λ b. cond b (after (waiting_in plan rows)) (waiting_in plan rows)) counted) in
    subst (λ requests. OnOk c.note_beat.result (c.note_beat.new.requests.items ≡ requests)) is (c.note_beat.ensures lanes)

pub returns-in-None-clause-noted : goal.returns-in-None-clause-noted
returns-in-None-clause-noted c = λ plan rows lanes layout is_plan lawful same.
    let row = row_with c.args.row.now lanes in
    let link = c.args.row.now.link in
    let links : c.links.result ≡ plan.layout.links = c.links.ensures ∙ ap (λ (l : Layout). l.links) layout in
    let owners : c.sources.result.now ≡ plan.layout.owners = c.sources.ensures ∙ ap (λ (l : Layout). l.owners) layout in
    let counted : is_counted plan.layout.links link ≡ true =
    ap (λ (l : Links). is_counted l link) (sym links) ∙ sym c.is_counted.ensures ∙ c.if-not-is_counted.false in
    let found : c.wide_source_at.result ≡ Some (wide_at plan row.sighting) =
    found_wide plan (beats_of rows) row.sighting is_plan lawful counted c.sources.result.now c.wide_source_at.result owners
    (λ number wide is. subst (λ (s : ℕ). (c.wide_source_at.result ≡ Some wide) ↔ IsWideSource c.sources.result.now number s wide)
    c.source.ensures (c.wide_source_at.ensures.master number wide is))
    (λ number is. c.wide_source_at.ensures.port number is ∙ ap (λ (s : ℕ). Some s) c.source.ensures) in
    absurd (none-some (wide_at plan row.sighting) (sym c.in-None.is ∙ found))
