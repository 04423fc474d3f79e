-- The error port has the number after the last.
use Rattle.std.proofs.Common.{◌≡◌, Some, ap, arith}
use Rattle.check_model.proofs.model.SystemModel.port_of.Goals as goal

pub returns-then-port-ports-clause-none : goal.returns-then-port-ports-clause-none
returns-then-port-ports-clause-none c =
    rw (← c.self.view_is, ← c.self-inside.view_is) ((c.route_bytes-port.ensures.port _).0
    (omega (arith, c.if-port-ports.true, c.ports.ensures.value)))

pub returns-then-port-ports-clause-only : goal.returns-then-port-ports-clause-only
returns-then-port-ports-clause-only c number routes below =
    let own = rw (← c.self.view_is, ← c.self-inside.view_is) at routes in
    let few = rw (← c.self.view_is, ← c.self-inside.view_is) at below in
    let here : c.route_bytes-port.result ≡ number = (c.route_bytes-port.ensures.port number).1 own in
    absurd (omega (arith, here, few, c.if-port-ports.true, c.ports.ensures.value))

pub returns-clause-only : goal.returns-clause-only
returns-clause-only c number routes below =
    let own = rw (← c.self.view_is, ← c.self-inside.view_is) at routes in
    ap (λ found. Some found) ((c.route_bytes-port.ensures.port number).1 own)
