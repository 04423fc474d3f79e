use Rattle.std.proofs.Common.{◌≡◌, ◌∙◌, false, sym, subst}
use Rattle.std.specs.Prelude.{IsTrue}
use Rattle.check_watch.specs.Plan.{Layout, seen_at}
use Rattle.check_sides.specs.Groups.{are_apart, is_alone, shared_past}
use Rattle.check_sides.specs.Plan.{CanCross}
use Rattle.check_sides.specs.View.{Keeps, View}
use Rattle.check_sides.proofs.Grouping.{in_group_watched}
use Rattle.check_sides.proofs.Keeping.{shared_take}
use Rattle.check_sides.proofs.watch.Watch.take_shared.Goals as goal

pub invariant_of-self : goal.invariant_of-self
invariant_of-self c = record {
  ports = λ apart. rw c.take.ensures.layout (c.self.invariant.ports
      (subst (λ (l : Layout). IsTrue (are_apart l)) c.take.ensures.layout apart));
  buses = rw c.take.ensures.layout c.self.invariant.buses;
}

pub returns-clause-taken : goal.returns-clause-taken
returns-clause-taken c plan past keeps =
    let view : View = record {
      layout = c.self.inside.shared.layout;
      shared = c.self.inside.shared;
      ports = c.self.inside.ports.items;
    } in
    let x = seen_at c.args.link c.args.beat.now c.args.known c.args.lanes.now in
    let inside : Keeps plan past view = subst (Keeps plan past) (sym c.self.view_is) keeps in
    let shared : is_alone plan.layout c.args.link ≡ false =
    subst (λ (l : Layout). is_alone l c.args.link ≡ false) keeps.suits.layout c.requires.shared in
    shared_take plan past view x inside shared c.take.new.self c.take.new.self.layout
    (c.take.ensures.layout ∙ inside.suits.layout) c.take.result
    (c.take.ensures.taken plan (shared_past plan.layout past) inside.shared)

pub take-requires : goal.take-requires
take-requires c =
    let beat : CanCross c.self.inside.shared.layout c.args.link c.args.lanes.now =
    subst (λ (v : View). CanCross v.layout c.args.link c.args.lanes.now) (sym c.self.view_is) c.requires.beat in
    let shared : is_alone c.self.inside.shared.layout c.args.link ≡ false =
    subst (λ (v : View). is_alone v.layout c.args.link ≡ false) (sym c.self.view_is) c.requires.shared in
    record {
      known = beat.known;
      watched = in_group_watched c.self.inside.shared.layout c.args.link shared beat.watched;
      lanes = beat.lanes;
    }
