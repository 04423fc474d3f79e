-- The paths so far, and those of the masters that are left, are those of all masters.
use Rattle.std.proofs.Common.{◌≡◌, drop, length, map, option_map}
use Rattle.tl_text.specs.Reading.{with_front}
use Rattle.check_description.specs.Master.{master_view}
use Rattle.check_description.specs.Placed.{paths_from, paths_view}
use Rattle.check_description.proofs.placed.find_paths.Given as goal

abbrev pub invariant-loop-number : goal.invariant-loop-number
invariant-loop-number l = record {
  read : with_front (paths_view l.paths)
      (paths_from (map (option_map (λ placed. placed.items)) l.lists) l.number (map master_view (drop l.number l.masters)))
      ≡ paths_from (map (option_map (λ placed. placed.items)) l.lists) 0 (map master_view l.masters);
  counted : length l.paths.items ≡ l.number;
}
