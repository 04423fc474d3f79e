use Rattle.std.proofs.Common.{◌≡◌, ◌∙◌, Option, Some, sym, ap, rules, subst}
use Rattle.std.specs.Prelude.{option_map}
use Rattle.tl_types.specs.Request.{Request}
use Rattle.check_cells.specs.Sent.{Sent}
use Rattle.check_flight.specs.Flight.{IsAskedAt, asked}
use Rattle.check_flight.specs.PortSlave.{PortSlave, once_cut}
use Rattle.check_watch.specs.Reset.{IsLeftPort}
use Rattle.check_watch.proofs.Resetting.{on_ok}
use Rattle.check_sides.specs.Flights.{IsOpenFlight}
use Rattle.check_sides.proofs.Opening.{open_cut}
use Rattle.check_sides.proofs.flights.cut_flight.Goals as goal

pub returns-in-Some : goal.returns-in-Some
returns-in-Some c =
    let flight = c.args.flight.now in
    let sent : Sent = c.in-Some.sent.now in
    let ask : Request = sent.ask in
    let slave = c.args.slave.now in
    let here : IsAskedAt c.args.port flight.turn = search rules in
    let apart : c.args.answering ≡ Some c.args.source → ⊥ = search rules in
    let is : option_map (λ (s : Sent). s.ask) (asked flight.turn) ≡ Some ask =
    ap (λ (o : Option Sent). option_map (λ (s : Sent). s.ask) o)
    (sym c.asked.ensures ∙ ap (λ o. option_map (λ a. a.now) o) c.in-Some.is) in
    on_ok c.cut_short.result
    (λ cut. subst (λ (s : PortSlave). IsLeftPort (IsOpenFlight c.args.port c.args.answering c.args.source flight) slave s)
    (sym (cut ∙ ap (λ (r : Request). once_cut slave r) (c.whole.ensures ∙ c.ask.ensures)))
    (open_cut c.args.port c.args.source c.args.answering flight slave ask here is apart))
    c.cut_short.ensures.cut
