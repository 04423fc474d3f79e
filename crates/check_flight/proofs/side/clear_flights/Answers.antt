use Rattle.check_flight.specs.Flight.{Flight, idle}
use Rattle.check_contests.proofs.Mapped.{mapped-more}
use Rattle.check_flight.proofs.side.clear_flights.Goals as goal

pub loop-flight-preserved : goal.loop-flight-preserved
loop-flight-preserved c =
    mapped-more (λ (_ : Flight). idle) c.args.flights.now c.loop-flight.flights c.loop-flight.flight-index
    c.flight-item.result c.clear.new.self c.loop-flight-test.true c.loop-flight.invariant c.clear.ensures
