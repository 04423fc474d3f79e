use Rattle.std.proofs.Common.{refl}
use Rattle.tl_map.proofs.Routing.{none_past_end}
use Rattle.tl_map.proofs.address_map.AddressMap.route_bytes.Goals as goal

pub returns-clause-port : goal.returns-clause-port
returns-clause-port c port = rw (← c.self.view_is, ← c.deref.ensures.value) (c.port_of.ensures.port port)

pub returns-clause-past_end : goal.returns-clause-past_end
returns-clause-past_end c past =
    let here = (c.port_of.ensures.port c.port_of.result).0 refl in
    rw (← c.self.view_is) (none_past_end _ c.self.invariant.lawful c.args.address c.args.size past c.port_of.result
    (rw c.deref.ensures.value at here))
