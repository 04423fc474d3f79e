-- The port of the address has the byte.
use Rattle.std.proofs.Common.{◌≡◌, ◌∙◌, Err, Some, slice_get, set, ap, subst, sym}
use Rattle.check_memory.specs.declared.slave.Slave.TheVariants as Stands
use Rattle.check_model.specs.declared.fault.ByteFault.TheVariants.{Device}
use Rattle.check_model.specs.declared.port.ModelPort.{ModelPort}
use Rattle.check_model.proofs.Reading.{is_there, on_ok, read_there}
use Rattle.check_model.proofs.model.SystemModel.poke.Goals as goal

pub returns-clause-device : goal.returns-clause-device
returns-clause-device c number port is =
    let found : Some c.in-Some.port ≡ Some number = sym c.in-Some.is ∙ c.port_of.ensures.only number is.routed is.some in
    let here : c.in-Some.port ≡ number = cc in
    let at : slice_get c.self.inside.ports.items c.in-Some.port ≡ Some port =
    rw (here) (rw (← c.self.view_is) at is.at) in
    subst (λ (p : ModelPort). (c.poke.result ≡ Err Device → p.slave ≡ Stands.Device)
    × (p.slave ≡ Stands.Device → c.poke.result ≡ Err Device))
    (read_there c.self.inside.ports.items c.in-Some.port port c.index_mut.result.now at c.index_mut.ensures.value)
    c.poke.ensures.device

pub returns-clause-poked : goal.returns-clause-poked
returns-clause-poked c =
    let port = c.index_mut.result.now in
    let slave = c.poke.new.self.slave in
    let new : c.poke.new.self ≡ record port { slave = slave } =
    ap (λ s. record { slave = slave; served = s }) c.poke.ensures.served in
    on_ok c.poke.result (λ puts. record {
      number = c.in-Some.port;
      port = port;
      slave = slave;
      is_of = record {
        routed = c.in-Some.ensures.some;
        some = c.in-Some.ensures.in_ports;
        at = rw (← c.self.view_is) (is_there c.self.inside.ports.items c.in-Some.port port (rw (← c.self.view_is) at c.in-Some.ensures.held)
            c.index_mut.ensures.value);
      };
      puts = puts;
      is = rw (← c.self.view_is) (ap (λ (p : ModelPort). record {
        layout = c.self.inside.wiring;
        ports = set c.self.inside.ports.items c.in-Some.port p;
        resets = c.self.inside.resets;
        loads = c.self.inside.loads;
      }) new);
    }) c.poke.ensures.put
