-- The masters so far are marked, and no two of them share a wide source.
use Rattle.std.proofs.Common.{◌≡◌, length}
use Rattle.tl_map.specs.Owners.{AreApartBelow}
use Rattle.tl_map.specs.Marks.{IsMarkedUpTo}
use Rattle.tl_map.proofs.owners.mark_all.Given as goal

abbrev pub invariant-loop-master : goal.invariant-loop-master
invariant-loop-master l = record {
  counted : length l.marks ≡ length l.initial.marks;
  marked : IsMarkedUpTo l.owners l.master 0 l.marks;
  apart : AreApartBelow l.owners l.master;
}
