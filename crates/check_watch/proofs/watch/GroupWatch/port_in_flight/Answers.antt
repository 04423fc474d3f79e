use Rattle.std.proofs.Common.{arith, ◌≡◌, ◌∙◌, ◌<◌, length, Some, ap, sym}
use Rattle.std.specs.Prelude.{option_map}
use Rattle.tl_types.specs.Request.{Request}
use Rattle.check_flight.specs.Flight.{Flight, asked}
use Rattle.check_watch.specs.View.{flight_in}
use Rattle.check_watch.proofs.Judging.{port_asked}
use Rattle.check_watch.proofs.watch.GroupWatch.port_in_flight.Goals as goal

pub returns-in-None-Port-clause-in_ports : goal.returns-in-None-Port-clause-in_ports
returns-in-None-Port-clause-in_ports c =
    let here : c.in-None-Port.port < length c.args.self.now.layout.ports =
    rw c.in-None-Port.is-1 at c.requires.known in
    omega (arith, here, c.sized.ensures.sized.slaves)

pub returns-in-None-Master-clause-in_ports : goal.returns-in-None-Master-clause-in_ports
returns-in-None-Master-clause-in_ports c = omega (arith, c.sized.ensures.sized.slaves)

pub returns-in-Some-default-clause-port : goal.returns-in-Some-default-clause-port
returns-in-Some-default-clause-port c plan beat suits =
    let view = c.args.self.now in
    let sent = c.in-Some-default.sent.now in
    let is : asked (flight_in view c.args.link c.args.wide).turn ≡ Some sent =
    sym (ap (λ (f : Flight). asked f.turn) c.flight.ensures) ∙ sym c.asked.ensures
    ∙ ap (λ o. option_map (λ a. a.now) o) c.in-Some-default.is-0 in
    let address : c.address.result ≡ sent.ask.address = c.address.ensures ∙ ap (λ (r : Request). r.address) c.ask.ensures in
    let size : c.size.result ≡ sent.ask.size = c.size.ensures.value ∙ ap (λ (r : Request). r.size) c.ask-in-Some-default.ensures in
    port_asked plan view c.args.link (flight_in view c.args.link c.args.wide).turn sent beat c.port.result suits is
    (λ number other at. rw (← address, ← size) (c.port.ensures.master number other at)) c.port.ensures.port
