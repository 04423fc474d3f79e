use Rattle.std.proofs.Common.{◌∙◌, ℕ, ap, rules}
use Rattle.std.specs.BTreeMap.{BTreeMap}
use Rattle.check_flight.specs.Flight.{Flight}
use Rattle.check_sides.proofs.Puts.{put_through}
use Rattle.check_sides.proofs.flights.Flights.begin.Goals as goal

pub returns-in-Some-clause-begun : goal.returns-in-Some-clause-begun
returns-in-Some-clause-begun c =
    put_through c.self.inside.kept (c.get_mut.follows.lender c.begin.new.self) c.args.self.now c.args.source
    c.begin.new.self _ c.self.view_is c.begin.ensures ((c.get_mut.follows.holds c.begin.new.self).3 (search rules))

pub returns-clause-begun : goal.returns-clause-begun
returns-clause-begun c =
    put_through c.get_mut.follows.lender-at-none c.insert.new.self c.args.self.now c.args.source c.begin-2.new.self _
    (ap (λ (m : BTreeMap ℕ Flight). m.entries) c.get_mut.follows.holds-at-none ∙ c.self.view_is)
    c.begin-2.ensures c.in_ok-insert.ensures.updates
