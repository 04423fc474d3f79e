use Rattle.std.proofs.Common.{◌≡◌, ◌∙◌, ap, sym, rules, Some, refl}
use Rattle.std.specs.BTreeMap.{get}
use Rattle.std.specs.Ordering.{nat_cmp}
use Rattle.check_flight.specs.Flight.{Flight, idle}
use Rattle.check_sides.specs.Flights.{flight_kept}
use Rattle.check_sides.proofs.Puts.{changed_some, put_through}
use Rattle.check_sides.proofs.flights.Flights.clear.Goals as goal

pub returns : goal.returns
returns c =
    let found : get nat_cmp c.self.inside.kept c.args.source ≡ Some c.in-Some.flight.now = search rules in
    changed_some c.args.self.now (c.get_mut.follows.lender c.clear.new.self).entries c.args.source (λ (f : Flight). idle)
    c.in-Some.flight.now idle (ap (λ k. flight_kept k c.args.source) (sym c.self.view_is) ∙ found) refl
    (put_through c.self.inside.kept (c.get_mut.follows.lender c.clear.new.self) c.args.self.now c.args.source
    c.clear.new.self _ c.self.view_is c.clear.ensures ((c.get_mut.follows.holds c.clear.new.self).3 (search rules)))
