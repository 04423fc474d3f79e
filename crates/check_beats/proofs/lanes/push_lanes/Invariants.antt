use Rattle.std.proofs.Common.{◌≡◌, ◌++◌}
use Rattle.check_beats.specs.Message.{given_at}
use Rattle.check_beats.proofs.lanes.push_lanes.Given as goal

-- the first k lanes are appended
abbrev pub invariant-loop-k : goal.invariant-loop-k
invariant-loop-k l = l.bytes ≡ l.initial.bytes ++ given_at l.fn.mask l.lanes l.fn.first l.k
