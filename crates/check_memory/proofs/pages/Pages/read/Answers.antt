use Rattle.std.proofs.Common.{◌∙◌, ◌+◌, ◌/◌, ◌^◌, ◌≤◌, take, drop, get_or, refl, sym, ap, arith}
use Rattle.check_memory.specs.Paged.{blank_slot, paged_cells, IsAt}
use Rattle.check_memory.proofs.PagePlaces.{slot_here, at_within, page_shown, fill_shown}
use Rattle.check_memory.proofs.pages.Pages.read.Goals as goal

pub read-requires-clause-at : goal.read-requires-clause-at
read-requires-clause-at c =
    let slots = c.self.inside.slots.slots in
    let found : IsAt slots (c.args.address / 256) c.in-Some.at = rw (← c.self.view_is) at c.in-Some.ensures.found in
    at_within slots c.in-Some.at (c.args.address / 256) found

pub returns-in-Some : goal.returns-in-Some
returns-in-Some c =
    let slots = c.self.inside.slots.slots in
    let number = c.args.address / 256 in
    let found : IsAt slots number c.in-Some.at = rw (← c.self.view_is) at c.in-Some.ensures.found in
    let here = slot_here slots c.in-Some.at number found in
    let within : c.args.address + c.args.width ≤ 2 ^ 64 = omega (arith, c.requires.inside, c.ranges.address.fits) in
    c.read.ensures
    ∙ sym (page_shown slots c.in-Some.at number (get_or slots c.in-Some.at blank_slot)
    c.self.inside.slots.known (2 ^ 64) c.args.address c.args.width c.self.invariant.distinct here.0 here.1 refl
    c.requires.inside within)
    ∙ ap (λ p. take c.args.width (drop c.args.address (paged_cells p))) c.self.view_is

pub returns-in-None : goal.returns-in-None
returns-in-None c =
    let slots = c.self.inside.slots.slots in
    let number = c.args.address / 256 in
    let none = rw (← c.self.view_is) at (c.in-None.ensures.none refl) in
    let within : c.args.address + c.args.width ≤ 2 ^ 64 = omega (arith, c.requires.inside, c.ranges.address.fits) in
    let unknown = rw c.known.ensures at c.fill.ensures in
    unknown
    ∙ sym (fill_shown slots number c.self.inside.slots.known
    (2 ^ 64) c.args.address c.args.width none refl c.requires.inside within)
    ∙ ap (λ p. take c.args.width (drop c.args.address (paged_cells p))) c.self.view_is
