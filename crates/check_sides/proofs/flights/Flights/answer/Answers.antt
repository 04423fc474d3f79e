use Rattle.std.proofs.Common.{◌≡◌, ◌∙◌, ap, sym, subst, refl, rules, Some, unwrap_or}
use Rattle.std.specs.BTreeMap.{get}
use Rattle.std.specs.Ordering.{nat_cmp}
use Rattle.std.specs.Prelude.{IsTrue, IsSomeAnd, OnOk, OnErr}
use Rattle.check_flight.specs.Flight.{Flight, asked, flight_due, idle}
use Rattle.check_flight.specs.PortSlave.{answering, due_answering, may_need_to_answer}
use Rattle.check_sides.specs.Flights.{flight_of, flight_kept}
use Rattle.check_watch.proofs.Keeping.{on_ok}
use Rattle.check_watch.proofs.Stepping.{on_err}
use Rattle.check_sides.proofs.Puts.{changed_some, put_through, written_same}
use Rattle.check_sides.proofs.flights.Flights.answer.Goals as goal

found : (c : goal.After-self-2-1) → get nat_cmp c.self.inside.kept c.args.source ≡ Some c.in-Some.flight.now
found c = search rules

here : (c : goal.After-self-2-1) → flight_kept c.args.self.now c.args.source ≡ Some c.in-Some.flight.now
here c = ap (λ k. flight_kept k c.args.source) (sym c.self.view_is) ∙ found c

pub returns-clause-flight : goal.returns-clause-flight
returns-clause-flight c =
    let due : Flight → Flight =
    λ f. flight_due f (due_answering c.args.port c.args.slave.now c.args.source (asked f.turn)) in
    on_ok c.answer.result
    (λ is. changed_some c.args.self.now (c.get_mut.follows.lender c.answer.new.self).entries c.args.source due
    c.in-Some.flight.now c.answer.new.self (here c) is
    (put_through c.self.inside.kept (c.get_mut.follows.lender c.answer.new.self) c.args.self.now c.args.source
    c.answer.new.self _ c.self.view_is refl
    ((c.get_mut.follows.holds c.answer.new.self).3 (search rules))))
    (rw c.place_at.ensures at c.answer.ensures.flight)

pub returns-clause-slave : goal.returns-clause-slave
returns-clause-slave c =
    let flight : c.in-Some.flight.now ≡ flight_of c.args.self.now c.args.source =
    ap (λ o. unwrap_or o idle) (sym (here c)) in
    subst (λ (f : Flight). OnOk c.answer.result (c.answer.new.slave
    ≡ answering c.args.slave.now c.args.source (asked f.turn))) flight
    (rw c.place_at.ensures at c.answer.ensures.slave)

pub returns-clause-needed : goal.returns-clause-needed
returns-clause-needed c =
    let flight : c.in-Some.flight.now ≡ flight_of c.args.self.now c.args.source =
    ap (λ o. unwrap_or o idle) (sym (here c)) in
    subst (λ (f : Flight). OnErr c.answer.result (IsSomeAnd (asked f.turn) (λ ask.
    IsTrue (may_need_to_answer c.args.slave.now ask)))) flight c.answer.ensures.needed

pub returns-clause-err : goal.returns-clause-err
returns-clause-err c =
    on_err c.answer.result
    (λ is. written_same c.self.inside.kept (c.get_mut.follows.lender c.answer.new.self) c.args.self.now c.args.source
    c.in-Some.flight.now c.answer.new.self c.self.view_is (found c) is
    (c.get_mut.follows.holds c.answer.new.self).0)
    c.answer.ensures.unchanged
