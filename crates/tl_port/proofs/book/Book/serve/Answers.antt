use Rattle.std.proofs.Common.{◌≡◌, refl, subst, length, arith}
use Rattle.std.proofs.lemmas.Grind.{common_steps}
use Rattle.tl_port.specs.Book.{BookView}
use Rattle.tl_port.specs.Steps.{with_served, ServesOne}
use Rattle.tl_port.proofs.Turns.{served_is, serves_on}
use Rattle.tl_port.proofs.book.Book.serve.Goals as goal

pub invariant_of-self-2 : goal.invariant_of-self-2
invariant_of-self-2 c =
    let old : BookView = record {
      seat = c.self.inside.seat;
      store = c.self.inside.bank;
      history = c.self.inside.history.items;
      flights = c.self.inside.flights.items;
      journal = c.self.inside.journal;
    } in
    let new : BookView = record {
      seat = c.answer_by.new.seat;
      store = c.answer_by.new.bank;
      history = c.answer_by.new.history.items;
      flights = c.pop_front.new.self.items;
      journal = c.self.inside.journal;
    } in
    let served : new ≡ with_served old c.in-Some.accepted new.flights =
    served_is old new c.in-Some.accepted c.answer_by.ensures.seat c.answer_by.ensures.bank c.answer_by.ensures.history refl in
    serves_on old new _ _ _ _ c.in-Some.accepted c.self.invariant c.in-Some.ensures.items served c.answer_by.ensures.law c.answer_by.ensures.capacity c.pop_front.ensures.capacity

pub returns : goal.returns
returns c =
    let old : BookView = record {
      seat = c.self.inside.seat;
      store = c.self.inside.bank;
      history = c.self.inside.history.items;
      flights = c.self.inside.flights.items;
      journal = c.self.inside.journal;
    } in
    let new : BookView = record {
      seat = c.answer_by.new.seat;
      store = c.answer_by.new.bank;
      history = c.answer_by.new.history.items;
      flights = c.pop_front.new.self.items;
      journal = c.self.inside.journal;
    } in
    let served : new ≡ with_served old c.in-Some.accepted new.flights =
    served_is old new c.in-Some.accepted c.answer_by.ensures.seat c.answer_by.ensures.bank c.answer_by.ensures.history refl in
    let place : c.len-place.result ≡ length old.history = grind (arith, common_steps, c.len-place.ensures) in
    let one : ServesOne old c.len-place.result new =
    record { flight = c.in-Some.accepted; oldest = c.in-Some.ensures.items; place_is = place; book = served } in
    subst (λ (b : BookView). ServesOne b c.len-place.result new) c.self.view_is one
