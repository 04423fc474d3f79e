use Rattle.tl_map.proofs.Ways.{has_routes}
use Rattle.tl_map.proofs.address_map.AddressMap.ports.Goals as goal

pub returns-clause-routes : goal.returns-clause-routes
returns-clause-routes c = has_routes c.args.self.now
