-- No port so far lists masters.
use Rattle.std.proofs.Common.{◌≡◌, drop, map, option_map}
use Rattle.std.specs.Prelude.{is_some}
use Rattle.std.specs.List.{list_any}
use Rattle.check_description.proofs.placed.are_listed.Given as goal

abbrev pub invariant-loop-list : goal.invariant-loop-list
invariant-loop-list l =
    list_any is_some (map (option_map (λ placed. placed.items)) (drop l.list-index l.lists))
    ≡ list_any is_some (map (option_map (λ placed. placed.items)) l.lists)
