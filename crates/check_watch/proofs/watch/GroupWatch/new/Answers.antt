use Rattle.std.proofs.Common.{◌∙◌, [], length, refl, ap, subst, sym}
use Rattle.tl_map.specs.Map.{RoutesBytes}
use Rattle.tl_map.specs.Owner.{IsOwned}
use Rattle.tl_map.proofs.Routing.{one_port}
use Rattle.check_beats.specs.Rules.{decoded_size}
use Rattle.check_beats.specs.State.{Under}
use Rattle.check_flight.specs.Side.{bus_at}
use Rattle.check_watch.specs.Plan.{Layout, Plan, IsPlan}
use Rattle.check_watch.specs.View.{GroupView}
use Rattle.check_watch.specs.contracts.wiring.Wiring.{the_view}
use Rattle.check_watch.proofs.Beginning.{fresh_keeps}
use Rattle.check_watch.proofs.Wides.{wide_by, wide_by_is}
use Rattle.check_watch.proofs.watch.GroupWatch.new.Goals as goal

pub invariant_of-result : goal.invariant_of-result
invariant_of-result c =
    let masters = c.deref.ensures.value ∙ ap (λ (l : Layout). l.master_buses) c.wiring.view_is in
    let ports = c.deref-2.ensures.value ∙ ap (λ (l : Layout). l.port_buses) c.wiring.view_is in
    record {
      masters = c.in_ok-masters.ensures.counted ∙ ap (λ l. length l) masters ∙ c.requires.masters;
      ports = c.in_ok-ports.ensures.counted ∙ ap (λ l. length l) ports ∙ c.requires.ports;
      master_buses = λ number. ap (λ (u : Under). u.bus) (c.in_ok-masters.ensures.links number)
          ∙ ap (λ l. bus_at l number) masters;
      port_buses = λ number. ap (λ (u : Under). u.bus) (c.in_ok-ports.ensures.links number)
          ∙ ap (λ l. bus_at l number) ports;
      slaves = c.requires.slaves;
      at_masters = c.in_ok-masters.ensures.wides ∙ sym c.in_ok-crossings.ensures.counted;
      at_ports = c.in_ok-ports.ensures.wides ∙ sym c.in_ok-crossings.ensures.counted;
      owned = λ w owned. rw c.in_ok-crossings.ensures.counted
          (c.wides-wides.ensures.above w (subst (λ (l : Layout). IsOwned l.owners w) (sym c.wiring.view_is) owned));
    }

pub returns-clause-plan : goal.returns-clause-plan
returns-clause-plan c =
    let layout : Layout = the_view c.wiring.inside in
    let plan : Plan = record {
      layout = layout;
      resets = c.args.slaves.items;
      own = [];
      wide = wide_by layout.owners;
      decode = λ address size. c.ports-slots.ensures.routes.0 address (decoded_size layout.rules size);
    } in
    let lawful : IsPlan plan = record {
      owners = c.masters-owners.ensures.lawful;
      wide = wide_by_is layout.owners;
      decode = λ address size port.
          let bytes = decoded_size layout.rules size in
          let finds = c.ports-slots.ensures.routes.1 address bytes in (
            λ is. subst (RoutesBytes layout.ports address bytes) is finds,
            λ found. one_port layout.ports c.ports-slots.ensures.lawful address bytes
                (c.ports-slots.ensures.routes.0 address bytes) port finds found,
          );
    } in
    let made : GroupView = record {
      layout = layout;
      masters = c.in_ok-masters.masters;
      ports = c.in_ok-ports.ports;
      crossings = c.in_ok-crossings.crossings.items;
      slaves = c.args.slaves.items;
    } in
    rw (← c.wiring.view_is) (
      plan,
      refl,
      fresh_keeps plan made lawful refl (rw (← c.deref.ensures.value) c.in_ok-masters.ensures.links)
          c.in_ok-masters.ensures.flights (rw (← c.deref-2.ensures.value) c.in_ok-ports.ensures.links)
          c.in_ok-ports.ensures.flights c.in_ok-crossings.ensures.fresh refl,
    )
