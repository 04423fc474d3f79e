-- The ranges so far, and those of the rest, are the ranges of all.
use Rattle.std.proofs.Common.{◌≡◌, drop}
use Rattle.tl_text.specs.Reading.{each, with_front}
use Rattle.check_description.specs.Volatile.{volatile_of_pair}
use Rattle.check_description.proofs.volatile.volatile_of_each.Given as goal

abbrev pub invariant-loop-pair : goal.invariant-loop-pair
invariant-loop-pair l =
    with_front l.ranges.items (each (volatile_of_pair l.first) (drop l.pair-index l.pairs))
    ≡ each (volatile_of_pair l.first) l.pairs
