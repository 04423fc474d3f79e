-- Masters of a list of which each is another one.
use Rattle.std.proofs.Common.{◌≡◌, ◌∙◌, ℕ, true, List, length, map, Option, Ok, refl}
use Rattle.std.proofs.lemmas.List.{length-map}
use Rattle.tl_text.specs.Reading.{each}
use Rattle.check_description.specs.Listed.{ListedMasters}
use Rattle.check_description.specs.Master.{Master, master_view}
use Rattle.check_description.specs.Placed.{names_of_masters, master_numbers, placed_by, placed_in}
use Rattle.check_description.specs.Reach.{are_distinct}
use Rattle.check_description.specs.declared.masters.Master as code_master
use Rattle.check_description.specs.declared.placed.PlacedMaster.{PlacedMaster}

-- there are as many names as masters
pub names_counted : (masters : List code_master.Master) → length (names_of_masters (map master_view masters)) ≡ length masters
names_counted masters =
    length-map (map master_view masters) (λ (master : Master). master.name) ∙ length-map masters master_view

pub placed_so : (names : List (Option (List ℕ))) (list : ListedMasters) (placed : List PlacedMaster)
    → each (placed_by names list.key) list.masters ≡ Ok placed → are_distinct (length names) (master_numbers placed) ≡ true
    → placed_in names list ≡ Ok placed
unfolding placed_in
placed_so names list placed read distinct = rw (read, distinct) refl
