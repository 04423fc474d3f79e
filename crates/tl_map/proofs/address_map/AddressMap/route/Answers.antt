use Rattle.tl_map.proofs.address_map.AddressMap.route.Goals as goal

pub returns-clause-port : goal.returns-clause-port
returns-clause-port c port = rw (c.address.ensures, c.size.ensures.value) at (c.route_bytes.ensures.port port)
