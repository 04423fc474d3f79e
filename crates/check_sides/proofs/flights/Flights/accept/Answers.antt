use Rattle.std.proofs.Common.{◌≡◌, rules, Some}
use Rattle.std.specs.BTreeMap.{get}
use Rattle.std.specs.Ordering.{nat_cmp}
use Rattle.check_watch.proofs.Keeping.{on_ok}
use Rattle.check_watch.proofs.Stepping.{on_err}
use Rattle.check_sides.proofs.Puts.{put_through, written_same}
use Rattle.check_sides.proofs.flights.Flights.accept.Goals as goal

pub returns-in-Some-clause-flight : goal.returns-in-Some-clause-flight
returns-in-Some-clause-flight c =
    on_ok c.accept.result
    (λ is. put_through c.self.inside.kept (c.get_mut.follows.lender c.accept.new.self) c.args.self.now
    c.args.beat.now.source c.accept.new.self _ c.self.view_is is
    ((c.get_mut.follows.holds c.accept.new.self).3 (search rules)))
    (rw c.place_at.ensures at c.accept.ensures.flight)

pub returns-in-Some-clause-err : goal.returns-in-Some-clause-err
returns-in-Some-clause-err c =
    let found : get nat_cmp c.self.inside.kept c.args.beat.now.source ≡ Some c.in-Some.flight.now = search rules in
    on_err c.accept.result
    (λ is. written_same c.self.inside.kept (c.get_mut.follows.lender c.accept.new.self) c.args.self.now
    c.args.beat.now.source c.in-Some.flight.now c.accept.new.self c.self.view_is found is
    (c.get_mut.follows.holds c.accept.new.self).0)
    c.accept.ensures.unchanged
