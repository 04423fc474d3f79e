-- None of the first requests contests it.
use Rattle.std.proofs.Common.{◌≡◌, List, take, false}
use Rattle.std.specs.Prelude.{map}
use Rattle.std.specs.List.{list_any}
use Rattle.check_coverage.specs.Bins.{contests}
use Rattle.check_coverage.specs.Flights.{InFlight, kept}
use Rattle.check_coverage.specs.Mirrors.{mirrors_in}
use Rattle.check_coverage.proofs.lists.is_contested.Given as goal

abbrev pub invariant-loop-other : goal.invariant-loop-other
invariant-loop-other l = (before : List InFlight) (this : InFlight) → l.flights ≡ map kept before
    → l.flight ≡ kept this
    → list_any (contests (mirrors_in l.mirrors this.port) this) (take l.other-index before) ≡ false
