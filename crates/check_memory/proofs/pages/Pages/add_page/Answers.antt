use Rattle.std.proofs.Common.{◌≡◌, ◌∙◌, ℕ, ◌+◌, ◌^◌, Bool, [], ◌∷◌, ◌++◌, length, replicate, refl, ap, sym, subst, arith, rules, nat_eq}
use Rattle.std.specs.HashMap.{get}
use Rattle.check_memory.specs.Place.{fill_of}
use Rattle.check_memory.specs.Paged.{Slot, Paged, paged_cells, IsAt, AreIndexed}
use Rattle.std.proofs.lemmas.List.{length-replicate}
use Rattle.check_memory.proofs.PagePlaces.{indexed_run, indexed_more, pages_same, at_new}
use Rattle.check_memory.proofs.pages.Pages.add_page.Goals as goal

-- a page of this number that nothing has written
abbrev fresh : ℕ → Bool → Slot
fresh number known = record { number = number; page = replicate 256 (fill_of known) }

-- pages with this one added
abbrev more : Paged → ℕ → Paged
more paged number = record { slots = paged.slots ++ fresh number paged.known ∷ []; known = paged.known }

-- what the new page shows was seen there before
seen_same : (paged : Paged) (number : ℕ) → ((i : ℕ) → IsAt paged.slots number i → ⊥)
    → paged_cells (more paged number) ≡ paged_cells paged
seen_same paged number none = pages_same paged.slots (fresh number paged.known) paged.known (2 ^ 64) refl none

-- the place of the new page
at_last : (paged : Paged) (number at : ℕ) → at ≡ length paged.slots → IsAt (more paged number).slots number at
at_last paged number at last = at_new paged.slots (fresh number paged.known) at last

-- ---- the first page

pub invariant_of-self-then-at-eq0 : goal.invariant_of-self-then-at-eq0
invariant_of-self-then-at-eq0 c =
    let paged = c.self.inside.slots in
    let none = rw (← c.self.view_is) at c.requires in
    let empty : length paged.slots ≡ 0 = sym c.len-at.ensures.value ∙ c.if-at-eq0.true in
    let run : c.self.inside.run ≡ 0 = omega (arith, empty, c.self.invariant.within) in
    let place = get nat_eq c.self.inside.index in
    let P : ℕ → Type 0 = λ n. AreIndexed (more paged c.args.number).slots c.args.number (n + 1) place in
    let Q : Paged → Type 0 = λ p. AreIndexed p.slots c.args.number 1 place in
    subst Q (sym c.in_ok-add.ensures.added) (subst P run (indexed_run paged.slots c.self.inside.first c.args.number
    c.self.inside.run place (fresh c.args.number paged.known) c.self.invariant none
    (length-replicate 256 (fill_of paged.known)) (empty ∙ sym run) (λ some. absurd (omega (arith, some, run)))
    (omega (arith, run))))

pub returns-then-at-eq0-clause-same : goal.returns-then-at-eq0-clause-same
returns-then-at-eq0-clause-same c =
    let none = rw (← c.self.view_is) at c.requires in
    ap paged_cells c.in_ok-add.ensures.added ∙ seen_same c.self.inside.slots c.args.number none ∙ ap paged_cells c.self.view_is

-- ---- a page that goes on with the run

pub overflow_add-self : goal.overflow_add-self
overflow_add-self c = omega (arith, c.if-at-self.true, c.len-at.ensures.in_limit)

pub invariant_of-self-then-number-self : goal.invariant_of-self-then-number-self
invariant_of-self-then-number-self c =
    let paged = c.self.inside.slots in
    let first = c.self.inside.first in
    let run = c.self.inside.run in
    let none = rw (← c.self.view_is) at c.requires in
    let place = get nat_eq c.self.inside.index in
    let numbered : c.args.number ≡ first + run =
    omega (arith, c.if-self-number.true, c.if-number-self.true, c.if-at-self.true) in
    let Q : Paged → Type 0 = λ p. AreIndexed p.slots first (run + 1) place in
    subst Q (sym c.in_ok-add-2.ensures.added) (indexed_run paged.slots first first run place
    (fresh c.args.number paged.known) c.self.invariant none (length-replicate 256 (fill_of paged.known))
    (sym c.len-at.ensures.value ∙ c.if-at-self.true) (λ some. refl) numbered)

pub returns-then-number-self-clause-same : goal.returns-then-number-self-clause-same
returns-then-number-self-clause-same c =
    let none = rw (← c.self.view_is) at c.requires in
    ap paged_cells c.in_ok-add-2.ensures.added ∙ seen_same c.self.inside.slots c.args.number none ∙ ap paged_cells c.self.view_is

pub returns-then-number-self-clause-at : goal.returns-then-number-self-clause-at
returns-then-number-self-clause-at c =
    let P : Paged → Type 0 = λ p. IsAt p.slots c.args.number c.len-at.result in
    subst P (sym c.in_ok-add-2.ensures.added) (at_last c.self.inside.slots c.args.number c.len-at.result
    c.len-at.ensures.value)

-- ---- a page that the index knows

pub returns-clause-same : goal.returns-clause-same
returns-clause-same c =
    let none = rw (← c.self.view_is) at c.requires in
    ap paged_cells c.in_default.ensures.added ∙ seen_same c.self.inside.slots c.args.number none ∙ ap paged_cells c.self.view_is

pub returns-clause-at : goal.returns-clause-at
returns-clause-at c =
    let P : Paged → Type 0 = λ p. IsAt p.slots c.args.number c.len-at.result in
    subst P (sym c.in_default.ensures.added) (at_last c.self.inside.slots c.args.number c.len-at.result
    c.len-at.ensures.value)

pub invariant_of-self-in_default : goal.invariant_of-self-in_default
invariant_of-self-in_default c =
    let paged = c.self.inside.slots in
    let first = c.self.inside.first in
    let run = c.self.inside.run in
    let none = rw (← c.self.view_is) at c.requires in
    let updates = c.in_ok-insert.ensures.updates in
    let Q : Paged → Type 0 = λ p. AreIndexed p.slots first run (get nat_eq c.insert.new.self) in
    subst Q (sym c.in_default.ensures.added) (indexed_more paged.slots first run (get nat_eq c.self.inside.index)
    (get nat_eq c.insert.new.self) (fresh c.args.number paged.known) c.len-at.result c.self.invariant none
    (length-replicate 256 (fill_of paged.known)) c.len-at.ensures.value updates.1
    (λ q apart. updates.2 q (search rules)))
