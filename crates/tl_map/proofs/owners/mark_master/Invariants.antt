-- The sources so far are marked, and none of them was an earlier master's.
use Rattle.std.proofs.Common.{◌≡◌, length}
use Rattle.tl_map.specs.Owners.{SharesNone}
use Rattle.tl_map.specs.Marks.{IsMarkedUpTo}
use Rattle.tl_map.proofs.owners.mark_master.Given as goal

abbrev pub invariant-loop-source : goal.invariant-loop-source
invariant-loop-source l = record {
  counted : length l.marks ≡ length l.initial.marks;
  marked : IsMarkedUpTo l.owners l.master l.source l.marks;
  none : SharesNone l.owners l.master l.source;
}
