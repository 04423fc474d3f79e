-- A row is noted.
use Rattle.std.proofs.Common.{◌≡◌, ◌∙◌, ℕ, true, Some, ap, sym, subst}
use Rattle.std.specs.Prelude.{◌↔◌}
use Rattle.std.proofs.lemmas.Option.{none-some, same_Some}
use Rattle.check_beats.specs.Bus.{bus_bytes}
use Rattle.tl_map.specs.Owner.{IsWideSource}
use Rattle.check_watch.specs.declared.seen.Ended.{Ended}
use Rattle.check_watch.specs.declared.links.Links.{Links}
use Rattle.check_sides.specs.Plan.{Layout, bus_of}
use Rattle.check_rows.specs.Row.{beats_of, row_with}
use Rattle.check_coverage.specs.Flights.{is_counted, wide_at}
use Rattle.check_coverage.specs.View.{IsNoted}
use Rattle.check_coverage.proofs.Covered.{covers_counted, covers_uncounted}
use Rattle.check_coverage.proofs.Lawful.{found_wide, lawful_size}
use Rattle.check_coverage.proofs.Noted.{ok_then}
use Rattle.check_coverage.proofs.coverage.Coverage.note.Goals as goal

pub returns-then-not-is_counted : goal.returns-then-not-is_counted
returns-then-not-is_counted c = λ plan earlier rows lanes covers keeps is_end.
    let link = c.args.row.now.link in
    let links : c.links.result ≡ plan.layout.links = c.links.ensures ∙ ap (λ (l : Layout). l.links) keeps.suits.layout in
    covers_uncounted plan earlier rows (row_with c.args.row.now lanes) c.args.self.now covers
    (ap (λ (l : Links). is_counted l link) (sym links) ∙ sym c.is_counted.ensures ∙ c.if-not-is_counted.true)

pub returns-in-Some : goal.returns-in-Some
returns-in-Some c = λ plan earlier rows lanes covers keeps is_end.
    let row = row_with c.args.row.now lanes in
    let link = c.args.row.now.link in
    let links : c.links.result ≡ plan.layout.links = c.links.ensures ∙ ap (λ (l : Layout). l.links) keeps.suits.layout in
    let owners : c.sources.result.now ≡ plan.layout.owners =
    c.sources.ensures ∙ ap (λ (l : Layout). l.owners) keeps.suits.layout in
    let bus : bus_bytes c.bus-bus.result ≡ bus_of plan.layout link =
    c.bus-bus.ensures ∙ ap (λ (l : Layout). bus_of l link) keeps.suits.layout in
    let counted : is_counted plan.layout.links link ≡ true =
    ap (λ (l : Links). is_counted l link) (sym links) ∙ sym c.is_counted.ensures ∙ c.if-not-is_counted.false in
    let found : c.wide_source_at.result ≡ Some (wide_at plan row.sighting) =
    found_wide plan (beats_of rows) row.sighting keeps.suits.lawful keeps.lawful counted c.sources.result.now
    c.wide_source_at.result owners
    (λ number wide is. subst (λ (s : ℕ). (c.wide_source_at.result ≡ Some wide) ↔ IsWideSource c.sources.result.now number s wide)
    c.source.ensures (c.wide_source_at.ensures.master number wide is))
    (λ number is. c.wide_source_at.ensures.port number is ∙ ap (λ (s : ℕ). Some s) c.source.ensures) in
    let wide : c.in-Some.wide ≡ wide_at plan row.sighting =
    same_Some c.in-Some.wide (wide_at plan row.sighting) (sym c.in-Some.is ∙ found) in
    ok_then c.note_beat.result
    (λ noted. covers_counted plan earlier rows row c.args.self.now c.note_beat.new.self (bus_bytes c.bus-bus.result) covers counted bus
    (subst (λ (e : Ended). IsNoted plan (bus_bytes c.bus-bus.result) (wide_at plan row.sighting) c.args.row.now.time
    c.args.row.now.beat e c.args.self.now c.note_beat.new.self) is_end
    (subst (λ (w : ℕ). IsNoted plan (bus_bytes c.bus-bus.result) w c.args.row.now.time
    c.args.row.now.beat c.args.end c.args.self.now c.note_beat.new.self) wide noted)))
    (c.note_beat.ensures plan keeps.suits covers.mirrors (lawful_size plan (beats_of rows) row.sighting keeps.lawful))

pub returns-in-None : goal.returns-in-None
returns-in-None c = λ plan earlier rows lanes covers keeps is_end.
    let row = row_with c.args.row.now lanes in
    let link = c.args.row.now.link in
    let links : c.links.result ≡ plan.layout.links = c.links.ensures ∙ ap (λ (l : Layout). l.links) keeps.suits.layout in
    let owners : c.sources.result.now ≡ plan.layout.owners =
    c.sources.ensures ∙ ap (λ (l : Layout). l.owners) keeps.suits.layout in
    let counted : is_counted plan.layout.links link ≡ true =
    ap (λ (l : Links). is_counted l link) (sym links) ∙ sym c.is_counted.ensures ∙ c.if-not-is_counted.false in
    let found : c.wide_source_at.result ≡ Some (wide_at plan row.sighting) =
    found_wide plan (beats_of rows) row.sighting keeps.suits.lawful keeps.lawful counted c.sources.result.now
    c.wide_source_at.result owners
    (λ number wide is. subst (λ (s : ℕ). (c.wide_source_at.result ≡ Some wide) ↔ IsWideSource c.sources.result.now number s wide)
    c.source.ensures (c.wide_source_at.ensures.master number wide is))
    (λ number is. c.wide_source_at.ensures.port number is ∙ ap (λ (s : ℕ). Some s) c.source.ensures) in
    absurd (none-some (wide_at plan row.sighting) (sym c.in-None.is ∙ found))
