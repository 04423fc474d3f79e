-- Those of the first places are counted, and the oldest of them is kept.
use Rattle.std.proofs.Common.{◌≡◌, ◌≤◌, length, take}
use Rattle.check_unanswered.specs.Table.{IsOldestOf, opens}
use Rattle.check_unanswered.proofs.left.left_in.Given as goal

abbrev pub invariant-loop-ask : goal.invariant-loop-ask
invariant-loop-ask l = record {
  counted : l.requests ≡ length (opens (take l.ask-index l.table));
  few : l.requests ≤ l.ask-index;
  oldest : IsOldestOf (opens (take l.ask-index l.table)) l.first;
}
