-- A row begins a late reply where messages are counted.
use Rattle.std.proofs.Common.{◌≡◌, ◌∙◌, ℕ, true, false, Some, ap, sym, subst}
use Rattle.std.specs.Prelude.{◌↔◌, ◌&&◌}
use Rattle.std.proofs.lemmas.Option.{none-some, same_Some}
use Rattle.tl_map.specs.Owner.{IsWideSource}
use Rattle.check_watch.specs.declared.links.Links.{Links}
use Rattle.check_sides.specs.Plan.{Layout}
use Rattle.check_rows.specs.Row.{beats_of, row_with}
use Rattle.check_coverage.specs.Flights.{is_counted, wide_at}
use Rattle.check_coverage.proofs.Lawful.{found_wide}
use Rattle.check_review.specs.Waiting.{answers_late, waiting_in}
use Rattle.check_review.proofs.waits.Waits.is_late_reply.Goals as goal

pub returns-then-not-is_counted : goal.returns-then-not-is_counted
returns-then-not-is_counted c = λ plan rows lanes layout is_plan lawful same.
    let row = row_with c.args.row.now lanes in
    let links : c.links.result ≡ plan.layout.links = c.links.ensures ∙ ap (λ (l : Layout). l.links) layout in
    let other : is_counted plan.layout.links row.sighting.link ≡ false =
    ap (λ (l : Links). is_counted l row.sighting.link) (sym links) ∙ sym c.is_counted.ensures ∙ c.if-not-is_counted.true in
    sym (ap (λ b. b && answers_late c.args.self.now.limit row.time (wide_at plan row.sighting) row.sighting.beat
    (waiting_in plan rows)) other)

pub returns-in-Some : goal.returns-in-Some
returns-in-Some c = λ plan rows lanes layout is_plan lawful same.
    let row = row_with c.args.row.now lanes in
    let link = c.args.row.now.link in
    let links : c.links.result ≡ plan.layout.links = c.links.ensures ∙ ap (λ (l : Layout). l.links) layout in
    let owners : c.sources.result.now ≡ plan.layout.owners = c.sources.ensures ∙ ap (λ (l : Layout). l.owners) layout in
    let counted : is_counted plan.layout.links link ≡ true =
    ap (λ (l : Links). is_counted l link) (sym links) ∙ sym c.is_counted.ensures ∙ c.if-not-is_counted.false in
    let found : c.wide_source_at.result ≡ Some (wide_at plan row.sighting) =
    found_wide plan (beats_of rows) row.sighting is_plan lawful counted c.sources.result.now c.wide_source_at.result owners
    (λ number wide is. subst (λ (s : ℕ). (c.wide_source_at.result ≡ Some wide) ↔ IsWideSource c.sources.result.now number s wide)
    c.source.ensures (c.wide_source_at.ensures.master number wide is))
    (λ number is. c.wide_source_at.ensures.port number is ∙ ap (λ (s : ℕ). Some s) c.source.ensures) in
    let wide : c.in-Some.wide ≡ wide_at plan row.sighting =
    same_Some c.in-Some.wide (wide_at plan row.sighting) (sym c.in-Some.is ∙ found) in
    let time = c.args.row.now.time in
    let beat = c.args.row.now.beat in
    c.answers_late.ensures
    ∙ ap (λ w. answers_late c.args.self.now.limit time w beat c.args.self.now.requests) wide
    ∙ ap (answers_late c.args.self.now.limit time (wide_at plan row.sighting) beat) same
    ∙ sym (ap (λ b. b && answers_late c.args.self.now.limit time (wide_at plan row.sighting) beat (waiting_in plan rows))
    counted)

pub returns-in-None : goal.returns-in-None
returns-in-None c = λ plan rows lanes layout is_plan lawful same.
    let row = row_with c.args.row.now lanes in
    let link = c.args.row.now.link in
    let links : c.links.result ≡ plan.layout.links = c.links.ensures ∙ ap (λ (l : Layout). l.links) layout in
    let owners : c.sources.result.now ≡ plan.layout.owners = c.sources.ensures ∙ ap (λ (l : Layout). l.owners) layout in
    let counted : is_counted plan.layout.links link ≡ true =
    ap (λ (l : Links). is_counted l link) (sym links) ∙ sym c.is_counted.ensures ∙ c.if-not-is_counted.false in
    let found : c.wide_source_at.result ≡ Some (wide_at plan row.sighting) =
    found_wide plan (beats_of rows) row.sighting is_plan lawful counted c.sources.result.now c.wide_source_at.result owners
    (λ number wide is. subst (λ (s : ℕ). (c.wide_source_at.result ≡ Some wide) ↔ IsWideSource c.sources.result.now number s wide)
    c.source.ensures (c.wide_source_at.ensures.master number wide is))
    (λ number is. c.wide_source_at.ensures.port number is ∙ ap (λ (s : ℕ). Some s) c.source.ensures) in
    absurd (none-some (wide_at plan row.sighting) (sym c.in-None.is ∙ found))
