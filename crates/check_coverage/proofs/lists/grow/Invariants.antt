-- The requests of the first places have their beat.
use Rattle.std.proofs.Common.{◌≡◌, List}
use Rattle.std.specs.Prelude.{map}
use Rattle.check_beats.specs.Bus.{bus_bytes}
use Rattle.check_coverage.specs.Flights.{InFlight, kept, with_beat}
use Rattle.check_coverage.proofs.Places.{upto}
use Rattle.check_coverage.proofs.lists.grow.Given as goal

abbrev pub invariant-loop-place : goal.invariant-loop-place
invariant-loop-place l = (before : List InFlight) → l.initial.flights.items ≡ map kept before
    → l.flights.items ≡ map kept (upto (with_beat (bus_bytes l.fn.bus) l.fn.wide l.beat l.fn.is_whole) before l.place)
