-- The places so far, and those that are left, are those of all masters.
use Rattle.std.proofs.Common.{◌≡◌, ◌++◌, drop}
use Rattle.std.specs.List.{filter_map}
use Rattle.check_start.specs.Numbers.{place_of}
use Rattle.check_start.proofs.numbers.places_of.Given as goal

abbrev pub invariant-loop-one : goal.invariant-loop-one
invariant-loop-one l =
    l.places.items ++ filter_map (place_of l.sources) (drop l.one-index l.placed) ≡ filter_map (place_of l.sources) l.placed
