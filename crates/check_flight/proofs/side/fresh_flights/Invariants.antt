use Rattle.std.proofs.Common.{◌≡◌, ℕ, vec_len}
use Rattle.check_flight.specs.Flight.{idle}
use Rattle.check_flight.specs.Side.{flight_at}
use Rattle.check_flight.proofs.side.fresh_flights.Given as goal

abbrev pub invariant-loop-wide : goal.invariant-loop-wide
invariant-loop-wide l = (vec_len l.flights ≡ l._wide) × ((wide : ℕ) → flight_at l.flights.items wide ≡ idle)
