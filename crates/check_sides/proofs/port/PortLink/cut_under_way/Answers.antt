use Rattle.std.proofs.Common.{◌≡◌, ◌∙◌, Some, sym, ap}
use Rattle.check_beats.specs.State.{ask_so_far}
use Rattle.check_flight.specs.PortSlave.{once_cut}
use Rattle.check_watch.proofs.Resetting.{on_ok}
use Rattle.check_sides.specs.View.{PortView}
use Rattle.check_sides.proofs.Opening.{none_under, under_cut}
use Rattle.check_sides.proofs.port.PortLink.cut_under_way.Goals as goal

pub returns-in-Some-clause-cut : goal.returns-in-Some-clause-cut
returns-in-Some-clause-cut c =
    let view = c.args.self.now in
    let here : ask_so_far view.under.asking ≡ Some c.in-Some.ask =
    ap (λ (v : PortView). ask_so_far v.under.asking) (sym c.self.view_is) ∙ sym c.ask_so_far.ensures ∙ c.in-Some.is in
    on_ok c.cut_short.result
    (λ cut. under_cut view.under.asking view.slave c.cut_short.new.self c.in-Some.ask here
    (cut ∙ ap (λ (v : PortView). once_cut v.slave c.in-Some.ask) c.self.view_is))
    c.cut_short.ensures.cut

pub returns-in-None-clause-cut : goal.returns-in-None-clause-cut
returns-in-None-clause-cut c =
    let view = c.args.self.now in
    none_under view.under.asking view.slave
    (ap (λ (v : PortView). ask_so_far v.under.asking) (sym c.self.view_is) ∙ sym c.ask_so_far.ensures ∙ c.in-None.is)
