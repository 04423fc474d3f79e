-- The last lanes are read, and are known.
use Rattle.std.proofs.Common.{◌≡◌, ◌-◌, ◌^◌, length}
use Rattle.check_rows.proofs.Shown.{AreRead}
use Rattle.check_rows.proofs.lanes.read_known.Given as goal

abbrev pub invariant-loop-k : goal.invariant-loop-k
invariant-loop-k l = record {
  size : length l.lanes ≡ l.count;
  read : AreRead l.count l.word (l.count - l.k) l.k (2 ^ l.k - 1) l.lanes;
}
