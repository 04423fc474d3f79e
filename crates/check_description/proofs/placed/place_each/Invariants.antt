-- The masters so far, and those of the rest, are the masters of all.
use Rattle.std.proofs.Common.{◌≡◌, drop, map}
use Rattle.tl_text.specs.Reading.{each, with_front}
use Rattle.check_description.specs.Listed.{listed_view}
use Rattle.check_description.specs.Master.{master_view}
use Rattle.check_description.specs.Placed.{names_of_masters, placed_by}
use Rattle.check_description.proofs.placed.place_each.Given as goal

abbrev pub invariant-loop-one : goal.invariant-loop-one
invariant-loop-one l =
    with_front l.placed.items
    (each (placed_by (names_of_masters (map master_view l.masters)) l.key) (map listed_view (drop l.one-index l.listed)))
    ≡ each (placed_by (names_of_masters (map master_view l.masters)) l.key) (map listed_view l.listed)
