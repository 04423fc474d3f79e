use Rattle.std.proofs.Common.{◌≡◌, ◌∙◌, ℕ, refl, sym, ap, subst}
use Rattle.check_flight.specs.Flight.{Flight, IsAskedAt}
use Rattle.check_flight.specs.Side.{flight_at}
use Rattle.check_watch.specs.declared.beat.Link.TheVariants.{Port}
use Rattle.check_watch.specs.View.{GroupView, state_in}
use Rattle.check_watch.proofs.Resetting.{no_link, none_some, on_ok, one_link}
use Rattle.check_watch.proofs.watch.GroupWatch.cut_taken.Goals as goal

pub cut_open-requires-clause-here : goal.cut_open-requires-clause-here
cut_open-requires-clause-here c =
    subst (λ (f : Flight). IsAskedAt c.in-Some.port f.turn)
    (c.flight.ensures ∙ ap (λ (v : GroupView). flight_at v.ports.flights c.args.wide) c.self.view_is)
    ((c.asked_at.ensures c.in-Some.port).0 c.in-Some.is)

pub returns-in-Some-clause-cut : goal.returns-in-Some-clause-cut
returns-in-Some-clause-cut c = λ plan suits.
    let view = c.args.self.now in
    let turn = (flight_at view.ports.flights c.args.wide).turn in
    let here : IsAskedAt c.in-Some.port turn =
    subst (λ (f : Flight). IsAskedAt c.in-Some.port f.turn)
    (c.flight.ensures ∙ ap (λ (v : GroupView). flight_at v.ports.flights c.args.wide) c.self.view_is)
    ((c.asked_at.ensures c.in-Some.port).0 c.in-Some.is) in
    on_ok c.cut_open.result
    (one_link plan (state_in view) c.args.wide view.slaves c.cut_open.new.self.slaves (λ n. Port n) turn (λ n. refl)
    (λ n. refl) c.in-Some.port here)
    (c.cut_open.ensures.cut plan suits)

pub returns-in-None-clause-cut : goal.returns-in-None-clause-cut
returns-in-None-clause-cut c = λ plan suits.
    let view = c.args.self.now in
    let flight = flight_at view.ports.flights c.args.wide in
    let there : c.flight.result.now ≡ flight =
    c.flight.ensures ∙ ap (λ (v : GroupView). flight_at v.ports.flights c.args.wide) c.self.view_is in
    let none : (number : ℕ) → IsAskedAt number flight.turn → ⊥ =
    λ number is. none_some number
    (sym c.in-None.is
    ∙ (c.asked_at.ensures number).1 (subst (λ (f : Flight). IsAskedAt number f.turn) (sym there) is)) in
    no_link plan (state_in view) c.args.wide view.slaves view.slaves (λ n. Port n) flight.turn (λ n. refl) (λ n. refl) none
