use Rattle.std.proofs.Common.{◌≡◌, ◌++◌, map, take, drop}
use Rattle.check_flight.specs.Crossing.{Crossing}
use Rattle.check_flight.specs.Crossing.Crossing.{Waiting}
use Rattle.check_watch.proofs.reset.clear_crossings.Given as goal

abbrev pub invariant-loop-crossing : goal.invariant-loop-crossing
invariant-loop-crossing l =
    l.crossings ≡ map (λ (_ : Crossing). Waiting) (take l.crossing-index l.initial.crossings)
    ++ drop l.crossing-index l.initial.crossings
