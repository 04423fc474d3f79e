-- The flags so far that are set, and those of the rest, are those of all.
use Rattle.std.proofs.Common.{◌≡◌, ◌+◌, ◌≤◌, drop}
use Rattle.check_description.specs.Reach.{count_set}
use Rattle.check_description.proofs.reach.count_set.Given as goal

abbrev pub invariant-loop-flag : goal.invariant-loop-flag
invariant-loop-flag l = record {
  split : l.count + count_set (drop l.flag-index l.flags) ≡ count_set l.flags;
  few : l.count ≤ l.flag-index;
}
