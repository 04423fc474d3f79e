use Rattle.std.proofs.Common.{◌≡◌, ◌≢◌, ◌+◌, length, refl, arith}
use Rattle.std.proofs.lemmas.Grind.{common_steps}
use Rattle.tl_port.specs.Book.{BookView}
use Rattle.tl_port.specs.Steps.{with_flight}
use Rattle.tl_port.proofs.Turns.{takes_on}
use Rattle.tl_port.proofs.book.Book.intake.Goals as goal

pub invariant_of-self : goal.invariant_of-self
invariant_of-self c =
    let same = c.in_default.ensures.none in
    let seat = same.0 in
    let flights = same.1 in
    let capacity = c.take_posted.ensures.capacity in
    rw (seat, flights, capacity) c.self.invariant

pub invariant_of-self-2 : goal.invariant_of-self-2
invariant_of-self-2 c =
    let old : BookView = record {
      seat = c.self.inside.seat;
      store = c.self.inside.bank;
      history = c.self.inside.history.items;
      flights = c.self.inside.flights.items;
      journal = c.self.inside.journal;
    } in
    let new : BookView = record {
      seat = c.take_posted.new.seat;
      store = c.self.inside.bank;
      history = c.self.inside.history.items;
      flights = c.take_posted.new.flights.items;
      journal = c.self.inside.journal;
    } in
    let one = c.in-Some.ensures.some in
    let seat = one.seat in
    let pushed = one.pushed in
    let is : new ≡ with_flight old one.flight = rw (seat, pushed) refl in
    let room : length old.history + length old.flights ≢ old.journal = grind (arith, common_steps) in
    takes_on old new _ _ _ one.flight c.self.invariant room is c.take_posted.ensures.law c.take_posted.ensures.capacity
