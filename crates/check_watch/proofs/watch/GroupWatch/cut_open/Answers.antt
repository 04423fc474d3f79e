use Rattle.std.proofs.Common.{◌≡◌, ◌∙◌, Some, sym, rules}
use Rattle.std.specs.Prelude.{option_map}
use Rattle.check_cells.specs.Sent.{Sent}
use Rattle.check_flight.specs.Flight.{asked}
use Rattle.check_watch.specs.Reset.{IsBeingAnswered}
use Rattle.check_watch.specs.View.{flight_in, state_in}
use Rattle.check_watch.proofs.Resetting.{answered_by_plan, on_ok, open_cut}
use Rattle.check_watch.proofs.watch.GroupWatch.cut_open.Goals as goal

pub returns-in-Some-clause-cut : goal.returns-in-Some-clause-cut
returns-in-Some-clause-cut c = λ plan suits.
    let view = c.args.self.now in
    let link = c.args.link in
    let wide = c.args.wide in
    let ask = c.in-Some.ask in
    let here : option_map (λ (sent : Sent). sent.ask) (asked (flight_in view link wide).turn) ≡ Some ask =
    sym c.asked_so_far.ensures ∙ c.in-Some.is in
    let none : IsBeingAnswered view.layout (state_in view) link wide → ⊥ = search rules in
    on_ok c.cut_at.result
    (open_cut plan (state_in view) link view.slaves c.cut_at.new.self.slaves wide ask here c.requires.here
    (λ is. none (answered_by_plan plan view link wide suits is)))
    (c.cut_at.ensures.cut plan suits)
