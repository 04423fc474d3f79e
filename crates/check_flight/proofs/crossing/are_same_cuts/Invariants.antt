use Rattle.std.proofs.Common.{ℕ, ◌<◌}
use Rattle.check_flight.specs.Crossing.{IsSameCut}
use Rattle.check_flight.proofs.crossing.are_same_cuts.Given as goal

-- the cuts so far are the same
abbrev pub invariant-loop-cut : goal.invariant-loop-cut
invariant-loop-cut l = (k : ℕ) → k < l.cut → IsSameCut l.width l.given l.captured k
