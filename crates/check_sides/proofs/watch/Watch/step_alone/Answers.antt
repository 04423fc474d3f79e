use Rattle.std.proofs.Common.{◌≡◌, ◌∙◌, Some, length, slice_get, true, ap, sym, subst, arith}
use Rattle.std.specs.Prelude.{slice_set}
use Rattle.check_watch.specs.declared.beat.Link.{Link}
use Rattle.check_watch.specs.declared.beat.Link.TheVariants.{Port}
use Rattle.check_watch.specs.Plan.{seen_at}
use Rattle.check_sides.specs.Groups.{is_alone, port_past, port_plan}
use Rattle.check_sides.specs.Plan.{Layout}
use Rattle.check_sides.specs.Steps.{IsStepAfter}
use Rattle.check_sides.specs.View.{Keeps, View}
use Rattle.check_sides.proofs.Keeping.{alone_before, alone_step, found_before, kept_here, own_port, placed_before, sized_with, wide_before}
use Rattle.check_sides.proofs.watch.Watch.step_alone.Goals as goal

abbrev view_of : goal.After-self-1 → View
view_of c = record {
  layout = c.self.inside.shared.layout;
  shared = c.self.inside.shared;
  ports = c.self.inside.ports.items;
}

found : (c : goal.After-self-1) → slice_get c.self.inside.ports.items c.args.port ≡ Some c.index_mut.result.now
found c =
    found_before (view_of c) c.args.self.now c.args.port c.args.link c.self.view_is c.requires.here c.requires.alone
    c.self.invariant c.requires.beat.known c.index_mut.result.now c.index_mut.ensures.value

-- the link has its place
pub index_mut-requires : goal.index_mut-requires
index_mut-requires c =
    let view : View = record {
      layout = c.self.inside.shared.layout;
      shared = c.self.inside.shared;
      ports = c.self.inside.ports.items;
    } in
    let placed =
    placed_before view c.args.self.now c.args.port c.args.link c.self.view_is c.requires.here c.requires.alone c.self.invariant
    c.requires.beat.known in
    omega (arith, placed)

pub returns-clause-judged : goal.returns-clause-judged
returns-clause-judged c plan past keeps =
    let port = c.args.port in
    let beat = c.args.beat.now in
    let known = c.args.known in
    let lanes = c.args.lanes.now in
    let link = c.index_mut.result.now in
    let view : View = view_of c in
    let new : View = record view { ports = slice_set view.ports port c.step.new.self } in
    let inside : Keeps plan past view = subst (Keeps plan past) (sym c.self.view_is) keeps in
    let alone : is_alone plan.layout (Port port) ≡ true =
    subst (λ (l : Layout). is_alone l (Port port) ≡ true) inside.suits.layout
    (alone_before view c.args.self.now port c.args.link c.self.view_is c.requires.here c.requires.alone) in
    let here = kept_here plan past view port beat known lanes inside alone link (found c) in
    let own = own_port plan past view port beat known lanes inside alone c.rules-rules.result c.map-map.result.now
    (ap (λ (l : Layout). l.rules) (sym inside.suits.layout) ∙ sym c.rules-rules.ensures)
    (ap (λ (l : Layout). l.ports) (sym inside.suits.layout) ∙ sym c.map-map.ensures) in
    subst (λ (l : Link). IsStepAfter plan past (seen_at l beat known lanes) new c.step.result) (sym c.requires.here)
    (alone_step plan past view port beat known lanes inside alone link c.step.new.self (found c) c.step.result
    (c.step.ensures.judged (port_plan plan) (port_past port past) own here))

pub step-requires : goal.step-requires
step-requires c =
    let view : View = record {
      layout = c.self.inside.shared.layout;
      shared = c.self.inside.shared;
      ports = c.self.inside.ports.items;
    } in
    record {
      lanes = wide_before view c.args.self.now c.args.port c.args.link c.self.view_is c.requires.here c.requires.alone
          c.self.invariant c.requires.beat.known c.index_mut.result.now c.index_mut.ensures.value (length c.args.lanes.now)
          c.requires.beat.lanes;
    }

pub invariant_of-self : goal.invariant_of-self
invariant_of-self c =
    sized_with (view_of c) c.args.port c.index_mut.result.now c.step.new.self c.self.invariant (found c) c.step.ensures.bus
