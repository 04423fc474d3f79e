-- The pages of the copy stand where those of the memory do, and its index knows the same places.
use Rattle.std.proofs.Common.{rules, ◌≡◌, ℕ, List, nat_eq, refl, sym, subst}
use Rattle.std.specs.Map.{lookup}
use Rattle.std.proofs.lemmas.List.Elements.{same_from_all_zip}
use Rattle.check_memory.specs.Paged.{Paged, AreIndexed}
use Rattle.check_memory.proofs.pages.PagesClone.clone.Goals as goal

pub invariant_of-result : goal.invariant_of-result
invariant_of-result c =
    let pages = c.self.inside in
    let slots : c.in_ok-clone.field-0 ≡ pages.slots = search rules in
    let entries : c.in_ok-clone-2.field-0.entries ≡ pages.index.entries =
    same_from_all_zip (λ (p q : ℕ × ℕ). (q.0 ≡ p.0) × (q.1 ≡ p.1)) pages.index.entries
    c.in_ok-clone-2.field-0.entries c.in_ok-clone-2.ensures.cases (λ p q same. rw (same.0, same.1) refl) in
    subst (λ (copy : Paged). AreIndexed copy.slots pages.first pages.run (λ k. lookup (nat_eq k) c.in_ok-clone-2.field-0.entries))
    (sym slots) (subst (λ (known : List (ℕ × ℕ)). AreIndexed pages.slots.slots pages.first pages.run (λ k. lookup (nat_eq k) known))
    (sym entries) c.self.invariant)
