use Rattle.std.proofs.Common.{◌≡◌, ◌∙◌, Option, Some, ℕ, ap, subst}
use Rattle.check_beats.specs.State.{ask_so_far, replying_source}
use Rattle.check_flight.specs.PortSlave.{PortSlave}
use Rattle.check_watch.specs.Reset.{IsLeftPort}
use Rattle.check_watch.proofs.Resetting.{both_left_port, on_ok}
use Rattle.check_sides.specs.Flights.{IsOpenOf}
use Rattle.check_sides.specs.View.{PortView}
use Rattle.check_sides.proofs.port.PortLink.cut_all.Goals as goal

pub returns-clause-cut : goal.returns-clause-cut
returns-clause-cut c =
    let view = c.args.self.now in
    let mid = c.cut_under_way.new.self in
    let i = c.self.inside in
    let left = c.cut_short.new.slave in
    let port = c.args.port in
    let same = c.self.view_is ∙ c.cut_under_way.ensures.rest in
    let by_answer : Option ℕ → Type 0 = λ answering. IsLeftPort (IsOpenOf i.flights port answering) i.slave left in
    let by_slave : PortSlave → Type 0 = λ slave.
    IsLeftPort (IsOpenOf i.flights port (replying_source i.under.replying)) slave left in
    let by_view : PortView → Type 0 = λ v.
    IsLeftPort (IsOpenOf v.flights port (replying_source v.under.replying)) mid.slave left in
    on_ok c.cut_short.result
    (λ open_cut. both_left_port (λ ask. ask_so_far view.under.asking ≡ Some ask)
    (IsOpenOf view.flights port (replying_source view.under.replying)) view.slave mid.slave left
    c.in_ok-cut_under_way.ensures.cut
    (subst by_view same
    (subst by_slave (ap (λ (v : PortView). v.slave) c.self.view_is)
    (subst by_answer c.replying_source-answering.ensures open_cut))))
    c.cut_short.ensures
