-- What is under way at the link is what is kept of it.
use Rattle.std.proofs.Common.{◌≡◌, ◌∙◌, true, ap, sym, subst, arith}
use Rattle.check_beats.specs.State.{Under}
use Rattle.check_watch.specs.declared.beat.Link.{Link}
use Rattle.check_watch.specs.declared.beat.Link.TheVariants.{Port}
use Rattle.check_watch.specs.Past.{state}
use Rattle.check_watch.specs.Plan.LinkSide.{AtPorts}
use Rattle.check_watch.specs.Scene.{begins}
use Rattle.check_sides.specs.Groups.{is_alone}
use Rattle.check_sides.specs.Lawful.{under_way}
use Rattle.check_sides.specs.Plan.{Layout}
use Rattle.check_sides.specs.View.{Keeps, View}
use Rattle.check_sides.proofs.Grouping.{of_group}
use Rattle.check_sides.proofs.Keeping.{alone_before, found_before, placed_before}
use Rattle.check_sides.proofs.watch.Watch.begins_alone.Goals as goal

-- the link has its place
pub index-requires : goal.index-requires
index-requires c =
    let view : View = record {
      layout = c.self.inside.shared.layout;
      shared = c.self.inside.shared;
      ports = c.self.inside.ports.items;
    } in
    let placed =
    placed_before view c.args.self.now c.args.port c.args.link c.self.view_is c.requires.here c.requires.alone c.self.invariant
    c.requires.known in
    omega (arith, placed)

pub returns : goal.returns
returns c plan past keeps =
    let port = c.args.port in
    let beat = c.args.beat.now in
    let link = c.index.result.now in
    let view : View = record {
      layout = c.self.inside.shared.layout;
      shared = c.self.inside.shared;
      ports = c.self.inside.ports.items;
    } in
    let inside : Keeps plan past view = subst (Keeps plan past) (sym c.self.view_is) keeps in
    let alone : is_alone plan.layout (Port port) ≡ true =
    subst (λ (l : Layout). is_alone l (Port port) ≡ true) inside.suits.layout
    (alone_before view c.args.self.now port c.args.link c.self.view_is c.requires.here c.requires.alone) in
    let found = found_before view c.args.self.now port c.args.link c.self.view_is c.requires.here c.requires.alone
    c.self.invariant c.requires.known link c.index.ensures in
    subst (λ (l : Link). c.begins.result ≡ begins (under_way plan past l) beat) (sym c.requires.here)
    (of_group plan past (Port port) (λ p l. c.begins.result ≡ begins ((state p l).links AtPorts port) beat) true alone
    (c.begins.ensures ∙ ap (λ (u : Under). begins u beat) (sym (inside.ports port alone link found).under)))
