-- No range so far has them.
use Rattle.std.proofs.Common.{◌≡◌, drop}
use Rattle.check_coverage.specs.Ranges.{place_from}
use Rattle.check_coverage.proofs.ranges.place_in.Given as goal

abbrev pub invariant-loop-number : goal.invariant-loop-number
invariant-loop-number l =
    place_from l.number l.address l.decoded l.span (drop l.number l.ranges)
    ≡ place_from 0 l.address l.decoded l.span l.ranges
