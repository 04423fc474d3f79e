use Rattle.std.proofs.Common.{◌≡◌, ◌∙◌, ◌++◌, [], List, Option, drop, length, take, ap, sym, subst}
use Rattle.std.specs.Prelude.{IsTrue}
use Rattle.check_memory.specs.declared.slave.Slave.{Slave}
use Rattle.check_watch.specs.View.{GroupView, KeepsGroup}
use Rattle.check_watch.proofs.Resetting.{on_ok, written_back}
use Rattle.check_sides.specs.Groups.{are_apart, shared_past}
use Rattle.check_sides.specs.Plan.{Layout}
use Rattle.check_sides.specs.Reset.{AreResetLinks, plan_after_reset}
use Rattle.check_sides.specs.View.{HaveBuses, IsSized, Keeps, PortView, View}
use Rattle.check_sides.proofs.Restarting.{is_reset, keeps_on, own_after}
use Rattle.check_sides.proofs.watch.Watch.reset.Goals as goal

pub invariant_of-self-2 : goal.invariant_of-self-2
invariant_of-self-2 c =
    let rest = drop (length c.reset_ports.new.ports) c.self.inside.ports.items in
    let back : take c.self.inside.ports.len (c.reset_ports.new.ports ++ rest) ≡ c.reset_ports.new.ports =
    written_back c.reset_ports.new.ports rest c.self.inside.ports.len
    (c.reset_ports.ensures.counted ∙ c.deref_mut.ensures.len) in
    let counted : length c.reset_ports.new.ports ≡ length c.self.inside.ports.items =
    c.reset_ports.ensures.counted ∙ ap (λ (l : List PortView). length l) c.deref_mut.ensures.value in
    let layout : c.reset.new.self.layout ≡ c.self.inside.shared.layout = c.reset.ensures.layout in
    let sized : IsSized (record {
      layout = c.reset.new.self.layout;
      shared = c.reset.new.self;
      ports = c.reset_ports.new.ports;
    }) = record {
      ports = λ apart. counted ∙ c.self.invariant.ports (subst (λ (l : Layout). IsTrue (are_apart l)) layout apart)
          ∙ ap (λ (l : Layout). length l.ports) (sym layout);
      buses = subst (λ (l : Layout). HaveBuses c.reset_ports.new.ports l.port_buses) (sym layout)
          (c.reset_ports.ensures.buses c.self.inside.shared.layout.port_buses
          (subst (λ (l : List PortView). HaveBuses l c.self.inside.shared.layout.port_buses) (sym c.deref_mut.ensures.value)
          c.self.invariant.buses));
    } in
    subst (λ (l : List PortView). IsSized (record { layout = c.reset.new.self.layout; shared = c.reset.new.self; ports = l }))
    (sym back) sized

pub returns-clause-reset : goal.returns-clause-reset
returns-clause-reset c = λ plan past keeps.
    let view = c.args.self.now in
    let new : View = record {
      layout = c.reset.new.self.layout;
      shared = c.reset.new.self;
      ports = c.reset_ports.new.ports;
    } in
    let shared_is : c.self.inside.shared ≡ view.shared = ap (λ (v : View). v.shared) c.self.view_is in
    let group = c.in_ok-reset.ensures.reset plan (shared_past plan.layout past)
    (subst (λ (g : GroupView). KeepsGroup plan (shared_past plan.layout past) g) (sym shared_is) keeps.shared) in
    let ports_are : c.deref_mut.result.now ≡ view.ports =
    c.deref_mut.ensures.value ∙ ap (λ (v : View). v.ports) c.self.view_is in
    let layout : new.layout ≡ view.layout = c.reset.ensures.layout ∙ ap (λ (v : View). v.layout) c.self.view_is in
    let counted : length new.ports ≡ length view.ports =
    c.reset_ports.ensures.counted ∙ ap (λ (l : List PortView). length l) ports_are in
    let rest = drop (length c.reset_ports.new.ports) c.self.inside.ports.items in
    let back : take c.self.inside.ports.len (c.reset_ports.new.ports ++ rest) ≡ c.reset_ports.new.ports =
    written_back c.reset_ports.new.ports rest c.self.inside.ports.len
    (c.reset_ports.ensures.counted ∙ c.deref_mut.ensures.len) in
    on_ok c.reset_ports.result
    (λ reset.
    let links : AreResetLinks view.ports c.args.own.items new.ports =
    subst (λ (l : List (Option Slave)). AreResetLinks view.ports l new.ports) c.deref_mut-2.ensures.value
    (subst (λ (l : List PortView). AreResetLinks l c.deref_mut-2.result.now new.ports) ports_are reset) in (
      group.0,
      own_after plan past view new keeps c.sized.ensures c.args.loaded.items c.args.own.items group.0 layout counted links,
      is_reset plan past view new keeps c.sized.ensures c.args.loaded.items c.args.own.items group.0 layout counted links
          group.1,
      subst (λ (l : List PortView). Keeps (plan_after_reset plan group.0 (own_after plan past view new keeps c.sized.ensures c.args.loaded.items c.args.own.items group.0 layout counted links)) [] (record new { ports = l })) (sym back)
          (keeps_on plan past view new keeps c.sized.ensures c.args.loaded.items c.args.own.items group.0 layout counted
          links group.2),
    ))
    c.reset_ports.ensures.reset
