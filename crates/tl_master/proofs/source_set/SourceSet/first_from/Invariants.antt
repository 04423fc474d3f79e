use Rattle.std.proofs.Common.{◌≤◌, ◌-◌}
use Rattle.tl_master.proofs.Bits.{NoneBetween}
use Rattle.tl_master.proofs.source_set.SourceSet.first_from.Given as goal

abbrev pub invariant-loop-start : goal.invariant-loop-start
invariant-loop-start l = record {
  after : l.fn.from ≤ l.start;
  none : NoneBetween l.self.words l.fn.from l.start;
}

abbrev pub decreases-loop-start : goal.decreases-loop-start
decreases-loop-start l = 256 - l.start
