-- The pairs so far, and those of the rest, are the pairs of all.
use Rattle.std.proofs.Common.{◌≡◌, drop, map}
use Rattle.toml.specs.View.{view}
use Rattle.tl_text.specs.Reading.{each, with_front}
use Rattle.check_keys.specs.Value.{pair_in_value}
use Rattle.check_description.proofs.ranges.read_each_pair.Given as goal

abbrev pub invariant-loop-value : goal.invariant-loop-value
invariant-loop-value l =
    with_front l.pairs.items (each (pair_in_value l.key) (map view (drop l.value-index l.values)))
    ≡ each (pair_in_value l.key) (map view l.values)
