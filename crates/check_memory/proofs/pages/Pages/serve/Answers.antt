use Rattle.std.proofs.Common.{◌≡◌, ◌∙◌, ◌+◌, ◌/◌, ◌%◌, ◌^◌, ◌<◌, ◌≤◌, ℕ, List, Option, Bool, length, take, drop, set, get_or, refl, sym, ap, subst, arith, nat_eq}
use Rattle.std.specs.HashMap.{get}
use Rattle.std.proofs.lemmas.List.{length-take-le, length-drop}
use Rattle.tl_types.specs.Operation.{reply_op_of}
use Rattle.tl_types.specs.declared.operation.AskOp.{AskOp}
use Rattle.tl_ops.specs.declared.kind.Kind.{Kind}
use Rattle.check_memory.specs.Known.{replaced}
use Rattle.check_memory.specs.Cells.{new_cells}
use Rattle.check_memory.specs.Pattern.{shown_cells}
use Rattle.check_memory.specs.Paged.{Slot, Paged, blank_slot, paged_cells, IsAt, AreDistinctPages, AreIndexed}
use Rattle.check_memory.proofs.Replaced.{length-replaced}
use Rattle.check_memory.proofs.PagePlaces.{slot_here, set_here, at_from_slot, at_within, paged_at, page_shown, page_changed, indexed_kept, length-new_cells}
use Rattle.check_memory.proofs.pages.Pages.serve.Goals as goal

pub serve-requires-clause-at : goal.serve-requires-clause-at
serve-requires-clause-at c =
    let found : IsAt c.self.inside.slots.slots (c.args.ask.now.address / 256) c.args.at =
    rw (← c.self.view_is) at c.requires.at in
    at_within c.self.inside.slots.slots c.args.at (c.args.ask.now.address / 256) found

-- what a request leaves is as long as its window
window_long : (page : List (Option ℕ)) (start width : ℕ) → length page ≡ 256 → start + width ≤ 256
    → length (take width (drop start page)) ≡ width
window_long page start width whole inside =
    length-take-le width (drop start page) (omega (arith, whole, inside, length-drop start page))

left_long : (kind : Kind) (op : AskOp) (page given : List (Option ℕ)) (start width : ℕ) → length page ≡ 256
    → start + width ≤ 256 → length given ≡ width
    → length (new_cells kind op (take width (drop start page)) given) ≡ width
left_long kind op page given start width whole inside long =
    let wide = window_long page start width whole inside in
    length-new_cells kind op (take width (drop start page)) given (long ∙ sym wide) ∙ wide

pub invariant_of-self : goal.invariant_of-self
invariant_of-self c =
    let slots = c.self.inside.slots.slots in
    let slot = get_or slots c.args.at blank_slot in
    let place = get nat_eq c.self.inside.index in
    let ask = c.args.ask.now in
    let start = ask.address % 256 in
    let found : IsAt slots (ask.address / 256) c.args.at = rw (← c.self.view_is) at c.requires.at in
    let here = slot_here slots c.args.at (ask.address / 256) found in
    let whole : length slot.page ≡ 256 = paged_at slots c.args.at slot c.self.invariant.distinct.paged here.0 in
    let cells = new_cells c.args.kind ask.op (take (2 ^ ask.size) (drop start slot.page)) ask.bytes in
    let long = left_long c.args.kind ask.op slot.page ask.bytes start (2 ^ ask.size) whole c.requires.inside
    c.requires.counted in
    let new : Slot = record { number = slot.number; page = replaced slot.page start cells } in
    let after = rw c.address.ensures at c.serve.ensures.after in
    let P : Paged → Type 0 = λ p. AreIndexed p.slots c.self.inside.first c.self.inside.run place in
    subst P (sym after) (indexed_kept slots c.self.inside.first c.self.inside.run place c.args.at slot new
    c.self.invariant here.0 refl
    (length-replaced slot.page cells start (omega (arith, whole, long, c.requires.inside)) ∙ whole))

-- a window of the page is one of what is seen
window : (slots : List Slot) (known : Bool) (at address width : ℕ) → AreDistinctPages slots → IsAt slots (address / 256) at
    → address % 256 + width ≤ 256 → address < 2 ^ 64
    → take width (drop address (paged_cells (record { slots = slots; known = known })))
    ≡ take width (drop (address % 256) (get_or slots at blank_slot).page)
window slots known at address width distinct found inside small =
    let here = slot_here slots at (address / 256) found in
    page_shown slots at (address / 256) (get_or slots at blank_slot) known (2 ^ 64) address width distinct here.0 here.1
    refl inside (omega (arith, inside, small))

pub returns-clause-shown : goal.returns-clause-shown
returns-clause-shown c =
    let ask = c.args.ask.now in
    let paged = c.self.inside.slots in
    let found : IsAt paged.slots (ask.address / 256) c.args.at = rw (← c.self.view_is) at c.requires.at in
    let small : ask.address < 2 ^ 64 = omega (arith, c.address.ensures, c.address.type_inv) in
    let shown = rw c.address.ensures at c.serve.ensures.shown in
    shown
    ∙ ap (shown_cells (reply_op_of ask.op)) (sym (window paged.slots paged.known c.args.at ask.address (2 ^ ask.size)
    c.self.invariant.distinct found c.requires.inside small)
    ∙ ap (λ p. take (2 ^ ask.size) (drop ask.address (paged_cells p))) c.self.view_is)

pub returns-clause-after : goal.returns-clause-after
returns-clause-after c =
    let ask = c.args.ask.now in
    let paged = c.self.inside.slots in
    let slots = paged.slots in
    let slot = get_or slots c.args.at blank_slot in
    let start = ask.address % 256 in
    let found : IsAt slots (ask.address / 256) c.args.at = rw (← c.self.view_is) at c.requires.at in
    let here = slot_here slots c.args.at (ask.address / 256) found in
    let whole : length slot.page ≡ 256 = paged_at slots c.args.at slot c.self.invariant.distinct.paged here.0 in
    let small : ask.address < 2 ^ 64 = omega (arith, c.address.ensures, c.address.type_inv) in
    let cells = new_cells c.args.kind ask.op (take (2 ^ ask.size) (drop start slot.page)) ask.bytes in
    let long = left_long c.args.kind ask.op slot.page ask.bytes start (2 ^ ask.size) whole c.requires.inside
    c.requires.counted in
    let new : Slot = record { number = slot.number; page = replaced slot.page start cells } in
    let after = rw c.address.ensures at c.serve.ensures.after in
    ap paged_cells after
    ∙ page_changed slots c.args.at (ask.address / 256) slot new paged.known (2 ^ 64) ask.address cells
    c.self.invariant.distinct here.0 here.1 refl refl (omega (arith, long, c.requires.inside))
    (omega (arith, long, c.requires.inside, small)) refl
    ∙ ap (λ old. replaced (paged_cells paged) ask.address (new_cells c.args.kind ask.op old ask.bytes))
    (sym (window slots paged.known c.args.at ask.address (2 ^ ask.size) c.self.invariant.distinct found
    c.requires.inside small))
    ∙ ap (λ p. replaced (paged_cells p) ask.address
    (new_cells c.args.kind ask.op (take (2 ^ ask.size) (drop ask.address (paged_cells p))) ask.bytes)) c.self.view_is

pub returns-clause-at : goal.returns-clause-at
returns-clause-at c =
    let ask = c.args.ask.now in
    let slots = c.self.inside.slots.slots in
    let slot = get_or slots c.args.at blank_slot in
    let start = ask.address % 256 in
    let found : IsAt slots (ask.address / 256) c.args.at = rw (← c.self.view_is) at c.requires.at in
    let here = slot_here slots c.args.at (ask.address / 256) found in
    let cells = new_cells c.args.kind ask.op (take (2 ^ ask.size) (drop start slot.page)) ask.bytes in
    let new : Slot = record { number = slot.number; page = replaced slot.page start cells } in
    let after = rw c.address.ensures at c.serve.ensures.after in
    let P : Paged → Type 0 = λ p. IsAt p.slots (ask.address / 256) c.args.at in
    subst P (sym after) (at_from_slot (set slots c.args.at new) c.args.at (ask.address / 256) new
    (set_here slots c.args.at slot new here.0) here.1)
