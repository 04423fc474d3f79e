-- The port that decoders find, or the error port.
use Rattle.std.proofs.Common.{◌-◌, refl, arith}
use Rattle.check_watch.proofs.Judging.{routes_found}
use Rattle.check_watch.proofs.wiring.Wiring.route.Goals as goal

pub returns-then-has-clause-port : goal.returns-then-has-clause-port
returns-then-has-clause-port c port =
    let found = c.route_bytes-found.result in
    rw (← c.self.view_is) (routes_found _ c.args.master c.args.address c.args.size found
    (λ p. rw (← c.decoded_size.ensures.value) (c.route_bytes-found.ensures.port p)) found
    (rw (← c.if-has.ensures) refl) port)

pub returns-else-has-clause-port : goal.returns-else-has-clause-port
returns-else-has-clause-port c port =
    let found = c.route_bytes-found.result in
    rw (← c.self.view_is) (routes_found _ c.args.master c.args.address c.args.size found
    (λ p. rw (← c.decoded_size.ensures.value) (c.route_bytes-found.ensures.port p)) (c.ports.result - 1)
    (rw (← c.if-has.ensures) (omega (arith, c.ports.ensures.value))) port)
