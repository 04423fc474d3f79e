use Rattle.std.proofs.Common.{◌≡◌, ◌∙◌, ◌≤◌, [], List, length, refl, ap, sym, subst, arith}
use Rattle.std.specs.Prelude.{IsTrue}
use Rattle.check_beats.specs.declared.bus.Bus.{Bus}
use Rattle.check_flight.specs.PortSlave.{PortSlave}
use Rattle.check_watch.specs.Plan.{IsPlan, Layout, Plan}
use Rattle.check_sides.specs.Groups.{are_apart}
use Rattle.check_sides.specs.View.{HaveBuses, Keeps, PortView, View, fresh_links}
use Rattle.check_sides.proofs.Fresh.{fresh_buses, fresh_keeps, length-fresh_links}
use Rattle.check_sides.proofs.watch.Watch.new.Goals as goal

-- the links that were made
made : (c : goal.In_ok-shared)
    → c.in_ok-ports.ports.items ≡ fresh_links c.args.wiring.port_buses c.args.own.items
made c =
    let buses = c.deref.ensures.value ∙ ap (λ (l : Layout). l.port_buses) c.wiring.view_is in
    c.in_ok-ports.ensures ∙ ap (λ (b : List Bus). fresh_links b c.args.own.items) buses

pub invariant_of-result : goal.invariant_of-result
invariant_of-result c = record {
  ports = λ apart.
      let own = c.requires.own (subst (λ (l : Layout). IsTrue (are_apart l)) c.in_ok-shared.ensures.layout apart) in
      let fits : length c.args.wiring.port_buses ≤ length c.args.own.items =
      omega (arith, own, c.requires.ports) in
      let links = ap (λ (l : List PortView). length l) (made c)
      ∙ length-fresh_links c.args.wiring.port_buses c.args.own.items fits in
      let ports = ap (λ (l : Layout). length l.ports) c.in_ok-shared.ensures.layout in
      omega (arith, links, ports, c.requires.ports);
  buses = subst (λ (l : List PortView). HaveBuses l c.in_ok-shared.shared.layout.port_buses) (sym (made c))
      (subst (λ (l : Layout). HaveBuses (fresh_links c.args.wiring.port_buses c.args.own.items) l.port_buses)
      (sym c.in_ok-shared.ensures.layout) (fresh_buses c.args.wiring.port_buses c.args.own.items));
}

abbrev made_of : goal.In_ok-shared → View
made_of c = record {
  layout = c.in_ok-shared.shared.layout;
  shared = c.in_ok-shared.shared;
  ports = c.in_ok-ports.ports.items;
}

keeps_by : (c : goal.In_ok-shared) (plan : Plan) → IsPlan plan → plan.layout ≡ c.args.wiring
    → plan.resets ≡ c.args.slaves.items → (IsTrue (are_apart c.args.wiring) → plan.own ≡ c.args.own.items)
    → Keeps plan [] (made_of c)
keeps_by c plan lawful layout resets own =
    fresh_keeps plan (made_of c) lawful (c.in_ok-shared.ensures.layout ∙ sym layout)
    (c.in_ok-shared.ensures.keeps plan lawful layout resets)
    (λ apart. made c
    ∙ ap (λ (s : List PortSlave). fresh_links c.args.wiring.port_buses s)
    (sym (own (subst (λ (l : Layout). IsTrue (are_apart l)) layout apart)))
    ∙ ap (λ (l : Layout). fresh_links l.port_buses plan.own) (sym layout))

pub returns-clause-keeps : goal.returns-clause-keeps
returns-clause-keeps c plan lawful layout resets own = keeps_by c plan lawful layout resets own

-- a plan with other slaves of the ports' links is one as well
abbrev with_own : Plan → List PortSlave → Plan
with_own plan own = record plan { own = own }

is_plan_with : (plan : Plan) (own : List PortSlave) → IsPlan plan → IsPlan (with_own plan own)
is_plan_with plan own is = record { owners = is.owners; wide = is.wide; decode = is.decode }

pub returns-clause-plan : goal.returns-clause-plan
returns-clause-plan c =
    let found = c.in_ok-shared.ensures.plan in
    let plan = with_own found.0 c.args.own.items in (
      plan,
      found.1,
      refl,
      keeps_by c plan (is_plan_with found.0 c.args.own.items found.2.suits.lawful)
          (sym found.2.suits.layout ∙ c.in_ok-shared.ensures.layout) found.1 (λ each. refl),
    )
