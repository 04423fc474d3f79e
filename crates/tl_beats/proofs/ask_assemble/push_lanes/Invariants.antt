use Rattle.tl_beats.specs.Reading.{GainsLanes}
use Rattle.tl_beats.proofs.ask_assemble.push_lanes.Given as goal

-- the first k lanes are appended
abbrev pub invariant-loop-k : goal.invariant-loop-k
invariant-loop-k l = GainsLanes l.beat l.first l.k l.initial.bytes l.bytes
