-- The ranges so far, and those of the rest, are the ranges of all; those so far are lawful.
use Rattle.std.proofs.Common.{◌≡◌, All, drop, length}
use Rattle.tl_map.specs.Map.{IsLawfulRange}
use Rattle.tl_text.specs.Reading.{each, with_front}
use Rattle.check_description.specs.Ranges.{range_of_pair}
use Rattle.check_description.proofs.ranges.make_each_range.Given as goal

abbrev pub invariant-loop-pair : goal.invariant-loop-pair
invariant-loop-pair l = record {
  read : with_front l.ranges.items (each range_of_pair (drop l.pair-index l.pairs)) ≡ each range_of_pair l.pairs;
  lawful : All IsLawfulRange l.ranges.items;
  counted : length l.ranges.items ≡ l.pair-index;
}
