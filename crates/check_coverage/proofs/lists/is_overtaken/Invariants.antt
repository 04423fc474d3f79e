-- What is left says whether one is overtaken.
use Rattle.std.proofs.Common.{◌≡◌, drop, ◌&&◌}
use Rattle.std.specs.Prelude.{◌==◌, not, take_while}
use Rattle.std.specs.Bool.{beq}
use Rattle.std.specs.List.{list_any}
use Rattle.check_coverage.specs.declared.flight.CountedFlight.{CountedFlight}
use Rattle.check_coverage.proofs.lists.is_overtaken.Given as goal

abbrev pub invariant-loop-other : goal.invariant-loop-other
invariant-loop-other l =
    list_any (λ (other : CountedFlight). other.master == l.flight.master && beq (not (other.port == l.flight.port)) l.elsewhere)
    (take_while (λ (other : CountedFlight). not (other.wide == l.flight.wide)) (drop l.other-index l.flights))
    ≡ list_any (λ (other : CountedFlight). other.master == l.flight.master && beq (not (other.port == l.flight.port)) l.elsewhere)
    (take_while (λ (other : CountedFlight). not (other.wide == l.flight.wide)) l.flights)
