use Rattle.std.proofs.Common.{◌≡◌, ◌∙◌, ◌+◌, ◌/◌, ◌%◌, ◌≤◌, ◌^◌, length, Some, get_or, refl, sym, ap, subst, arith, nat_eq}
use Rattle.std.specs.HashMap.{get}
use Rattle.std.proofs.lemmas.List.{length-map}
use Rattle.check_memory.specs.Known.{known, replaced}
use Rattle.check_memory.specs.Paged.{Slot, Paged, blank_slot, paged_cells, IsAt, AreIndexed}
use Rattle.check_memory.proofs.PagePlaces.{slot_here, at_within, paged_at, page_changed, indexed_kept}
use Rattle.check_memory.proofs.Replaced.{length-replaced}
use Rattle.check_memory.proofs.pages.Pages.load.Goals as goal

pub load-requires-clause-at : goal.load-requires-clause-at
load-requires-clause-at c =
    let found : IsAt c.self.inside.slots.slots (c.args.address / 256) c.args.at =
    rw (← c.self.view_is) at c.requires.at in
    at_within c.self.inside.slots.slots c.args.at (c.args.address / 256) found

pub invariant_of-self : goal.invariant_of-self
invariant_of-self c =
    let slots = c.self.inside.slots.slots in
    let slot = get_or slots c.args.at blank_slot in
    let place = get nat_eq c.self.inside.index in
    let start = c.args.address % 256 in
    let cells = known c.args.bytes.now in
    let found : IsAt slots (c.args.address / 256) c.args.at = rw (← c.self.view_is) at c.requires.at in
    let here = slot_here slots c.args.at (c.args.address / 256) found in
    let whole : length slot.page ≡ 256 = paged_at slots c.args.at slot c.self.invariant.distinct.paged here.0 in
    let long : length cells ≡ length c.args.bytes.now = length-map c.args.bytes.now (λ byte. Some byte) in
    let new : Slot = record { number = slot.number; page = replaced slot.page start cells } in
    let P : Paged → Type 0 = λ p. AreIndexed p.slots c.self.inside.first c.self.inside.run place in
    subst P (sym c.load.ensures) (indexed_kept slots c.self.inside.first c.self.inside.run place c.args.at slot new
    c.self.invariant here.0 refl
    (length-replaced slot.page cells start (omega (arith, whole, long, c.requires.inside)) ∙ whole))

pub returns-clause-after : goal.returns-clause-after
returns-clause-after c =
    let slots = c.self.inside.slots.slots in
    let slot = get_or slots c.args.at blank_slot in
    let start = c.args.address % 256 in
    let cells = known c.args.bytes.now in
    let found : IsAt slots (c.args.address / 256) c.args.at = rw (← c.self.view_is) at c.requires.at in
    let here = slot_here slots c.args.at (c.args.address / 256) found in
    let new : Slot = record { number = slot.number; page = replaced slot.page start cells } in
    let long : length cells ≡ length c.args.bytes.now = length-map c.args.bytes.now (λ byte. Some byte) in
    let room : start + length cells ≤ 256 = omega (arith, c.requires.inside, long) in
    ap paged_cells c.load.ensures
    ∙ page_changed slots c.args.at (c.args.address / 256) slot new c.self.inside.slots.known (2 ^ 64) c.args.address
    cells c.self.invariant.distinct here.0 here.1 refl refl room
    (omega (arith, room, c.ranges.address.fits)) refl
    ∙ ap (λ p. replaced (paged_cells p) c.args.address cells) c.self.view_is
