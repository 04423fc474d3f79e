use Rattle.std.proofs.Common.{◌≡◌, take}
use Rattle.check_flight.proofs.Fresh.{fresh_of}
use Rattle.check_flight.proofs.side.fresh_links.Given as goal

abbrev pub invariant-loop-bus : goal.invariant-loop-bus
invariant-loop-bus l = l.links.items ≡ fresh_of (take l.bus-index l.buses)
