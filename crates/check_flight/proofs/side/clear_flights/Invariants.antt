use Rattle.std.proofs.Common.{◌≡◌, ◌++◌, map, take, drop}
use Rattle.check_flight.specs.Flight.{Flight, idle}
use Rattle.check_flight.proofs.side.clear_flights.Given as goal

abbrev pub invariant-loop-flight : goal.invariant-loop-flight
invariant-loop-flight l =
    l.flights ≡ map (λ (_ : Flight). idle) (take l.flight-index l.initial.flights) ++ drop l.flight-index l.initial.flights
