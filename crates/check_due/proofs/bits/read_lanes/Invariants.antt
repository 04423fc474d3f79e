-- The last lanes are read.
use Rattle.std.proofs.Common.{◌≡◌, ◌-◌, length}
use Rattle.check_due.proofs.ReadLemmas.{AreRead}
use Rattle.check_due.proofs.bits.read_lanes.Given as goal

abbrev pub invariant-loop-k : goal.invariant-loop-k
invariant-loop-k l = record {
  size : length l.lanes ≡ l.count;
  read : AreRead l.count l.bits (l.count - l.k) l.k l.known l.lanes;
}
