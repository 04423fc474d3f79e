-- The masters are distinct, so they are those of the list.
use Rattle.std.proofs.Common.{◌∙◌, length, map, subst, sym, true, ◌≡◌, ℕ}
use Rattle.check_description.specs.Listed.{list_view}
use Rattle.check_description.specs.Master.{master_view}
use Rattle.check_description.specs.Placed.{names_of_masters, master_numbers}
use Rattle.check_description.specs.Reach.{are_distinct}
use Rattle.check_description.proofs.PlacedLemmas.{names_counted, placed_so}
use Rattle.check_description.proofs.placed.placed_in.Goals as goal

pub returns-then-branch : goal.returns-then-branch
returns-then-branch c =
    let masters = c.args.masters.now in
    let placed = c.in_ok-placed.placed.items in
    let distinct : are_distinct (length masters) (master_numbers placed) ≡ true =
    rw (c.deref-3.ensures.value, c.in_ok-numbers.ensures, c.deref-2.ensures.value) at
    (sym c.in_ok-are_distinct.ensures ∙ c.if-branch.true) in
    placed_so (names_of_masters (map master_view masters)) (list_view c.args.list.now) placed
    (rw c.deref.ensures.value at c.in_ok-placed.ensures)
    (subst (λ (n : ℕ). are_distinct n (master_numbers placed) ≡ true) (sym (names_counted masters)) distinct)
