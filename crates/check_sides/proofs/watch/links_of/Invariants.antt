use Rattle.std.proofs.Common.{◌≡◌, map}
use Rattle.check_beats.specs.Bus.{bus_bytes}
use Rattle.check_beats.specs.declared.bus.Bus.{Bus}
use Rattle.check_flight.specs.PortSlave.{PortSlave}
use Rattle.check_sides.specs.View.{fresh_link}
use Rattle.check_sides.proofs.watch.links_of.Given as goal

abbrev pub invariant-loop-bus : goal.invariant-loop-bus
invariant-loop-bus l =
    l.links.items ≡ map (λ (p : Bus × PortSlave). fresh_link (bus_bytes p.0) p.1) (map (λ p. (p.0.now, p.1)) l.yielded)
