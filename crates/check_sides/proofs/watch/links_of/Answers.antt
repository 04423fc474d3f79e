use Rattle.std.proofs.Common.{◌∙◌, ap, map, rules}
use Rattle.std.proofs.lemmas.Iterator.{YieldsList-from_slice, YieldsList-from_zip}
use Rattle.std.proofs.lemmas.Iterator.Adapters.{YieldsList-from_vec}
use Rattle.std.proofs.lemmas.Iterator.Consumers.{YieldsList-end}
use Rattle.check_beats.specs.Bus.{bus_bytes}
use Rattle.check_beats.specs.declared.bus.Bus.{Bus}
use Rattle.check_flight.specs.PortSlave.{PortSlave}
use Rattle.check_sides.specs.View.{fresh_link}
use Rattle.check_sides.proofs.watch.links_of.Goals as goal

pub returns : goal.returns
returns c =
    let all = YieldsList-end (YieldsList-from_zip (YieldsList-from_slice c.args.buses.now cc)
    (YieldsList-from_vec c.args.slaves.items (search rules) (search rules))) c.loop-bus.yielded
    c.loop-bus.bus-iterator c.loop-bus.yielded_by c.next.result c.next.new.self c.in-None.is c.next.ensures.steps in
    c.loop-bus.invariant ∙ ap (map (λ (p : Bus × PortSlave). fresh_link (bus_bytes p.0) p.1)) all.0
