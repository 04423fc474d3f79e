use Rattle.std.proofs.Common.{arith, ◌≡◌, ◌∙◌, List, [], ◌∷◌, ◌++◌, ap, sym, subst}
use Rattle.check_flight.specs.Flight.{Flight, idle}
use Rattle.check_flight.specs.Side.{flight_at}
use Rattle.check_flight.proofs.Fresh.{fresh_more}
use Rattle.check_flight.proofs.side.fresh_flights.Goals as goal

pub loop-wide-preserved : goal.loop-wide-preserved
loop-wide-preserved c =
    let before = c.loop-wide.flights.items in
    let items : c.push.new.self.items ≡ before ++ idle ∷ [] =
    c.in_ok-push.ensures.items ∙ ap (λ (f : Flight). before ++ f ∷ []) c.idle.ensures in (
      omega (arith, c.in_ok-push.ensures.len, c.loop-wide.invariant.0),
      λ wide. subst (λ (l : List Flight). flight_at l wide ≡ idle) (sym items)
          (fresh_more idle before c.loop-wide.invariant.1 wide),
    )
