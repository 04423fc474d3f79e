use Rattle.std.proofs.Common.{◌≡◌, ◌∙◌, ◌+◌, ◌/◌, ◌%◌, ◌≤◌, ◌^◌, length, drop, set, get_or, refl, sym, ap, subst, arith, nat_eq}
use Rattle.std.specs.HashMap.{get}
use Rattle.std.proofs.lemmas.List.{length-drop}
use Rattle.check_memory.specs.Known.{replaced}
use Rattle.check_memory.specs.Cells.{forgotten}
use Rattle.check_memory.specs.Place.{tabulate}
use Rattle.check_memory.specs.Paged.{Slot, Paged, blank_slot, paged_cells, content, IsAt, AreIndexed}
use Rattle.check_memory.proofs.Forgotten.{marked, length-marked, length-forgotten, marked-take}
use Rattle.check_memory.proofs.PagePlaces.{slot_here, set_here, at_from_slot, at_within, paged_at, page_shown, page_changed, indexed_kept}
use Rattle.check_memory.proofs.pages.Pages.forget.Goals as goal

pub forget-requires-clause-at : goal.forget-requires-clause-at
forget-requires-clause-at c =
    let found : IsAt c.self.inside.slots.slots (c.args.address / 256) c.args.at =
    rw (← c.self.view_is) at c.requires.at in
    at_within c.self.inside.slots.slots c.args.at (c.args.address / 256) found

pub invariant_of-self : goal.invariant_of-self
invariant_of-self c =
    let slots = c.self.inside.slots.slots in
    let slot = get_or slots c.args.at blank_slot in
    let place = get nat_eq c.self.inside.index in
    let start = c.args.address % 256 in
    let flags = c.args.flags.now in
    let found : IsAt slots (c.args.address / 256) c.args.at = rw (← c.self.view_is) at c.requires.at in
    let here = slot_here slots c.args.at (c.args.address / 256) found in
    let whole : length slot.page ≡ 256 = paged_at slots c.args.at slot c.self.invariant.distinct.paged here.0 in
    let new : Slot = record { number = slot.number; page = forgotten flags start slot.page } in
    let P : Paged → Type 0 = λ p. AreIndexed p.slots c.self.inside.first c.self.inside.run place in
    subst P (sym c.forget.ensures) (indexed_kept slots c.self.inside.first c.self.inside.run place c.args.at slot new
    c.self.invariant here.0 refl
    (length-forgotten flags start slot.page (omega (arith, whole, c.requires.inside)) ∙ whole))

pub returns-clause-after : goal.returns-clause-after
returns-clause-after c =
    let slots = c.self.inside.slots.slots in
    let slot = get_or slots c.args.at blank_slot in
    let known = c.self.inside.slots.known in
    let address = c.args.address in
    let start = address % 256 in
    let flags = c.args.flags.now in
    let n = length flags in
    let found : IsAt slots (address / 256) c.args.at = rw (← c.self.view_is) at c.requires.at in
    let here = slot_here slots c.args.at (address / 256) found in
    let whole : length slot.page ≡ 256 = paged_at slots c.args.at slot c.self.invariant.distinct.paged here.0 in
    let new : Slot = record { number = slot.number; page = forgotten flags start slot.page } in
    let cells = marked flags (drop start slot.page) in
    let long : length cells ≡ n =
    length-marked flags (drop start slot.page)
    (omega (arith, c.requires.inside, whole, length-drop start slot.page)) in
    let within : address + n ≤ 2 ^ 64 = omega (arith, c.requires.inside, c.ranges.address.fits) in
    let shown : cells ≡ marked flags (drop address (tabulate (content slots known) (2 ^ 64))) =
    sym (marked-take flags (drop start slot.page))
    ∙ ap (marked flags) (sym (page_shown slots c.args.at (address / 256) slot known (2 ^ 64) address n
    c.self.invariant.distinct here.0 here.1 refl c.requires.inside within))
    ∙ marked-take flags (drop address (tabulate (content slots known) (2 ^ 64))) in
    ap paged_cells c.forget.ensures
    ∙ page_changed slots c.args.at (address / 256) slot new known (2 ^ 64) address
    cells c.self.invariant.distinct here.0 here.1 refl refl (omega (arith, long, c.requires.inside))
    (omega (arith, long, within)) refl
    ∙ ap (replaced (tabulate (content slots known) (2 ^ 64)) address) shown
    ∙ ap (λ p. forgotten flags address (paged_cells p)) c.self.view_is

pub returns-clause-at : goal.returns-clause-at
returns-clause-at c =
    let slots = c.self.inside.slots.slots in
    let slot = get_or slots c.args.at blank_slot in
    let found : IsAt slots (c.args.address / 256) c.args.at = rw (← c.self.view_is) at c.requires.at in
    let here = slot_here slots c.args.at (c.args.address / 256) found in
    let new : Slot = record { number = slot.number; page = forgotten c.args.flags.now (c.args.address % 256) slot.page } in
    let P : Paged → Type 0 = λ p. IsAt p.slots (c.args.address / 256) c.args.at in
    subst P (sym c.forget.ensures) (at_from_slot (set slots c.args.at new) c.args.at (c.args.address / 256) new
    (set_here slots c.args.at slot new here.0) here.1)
