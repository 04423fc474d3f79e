-- The group of a port's link that is judged by itself.
use Rattle.std.proofs.Common.{◌≡◌, ◌∙◌, length, true, ap, sym, subst, arith}
use Rattle.std.specs.Prelude.{IfNone, IfSome}
use Rattle.check_watch.specs.declared.beat.Link.{Link}
use Rattle.check_watch.specs.declared.beat.Link.TheVariants.{Port}
use Rattle.check_watch.specs.Lawful.{IsAllowed, IsFirstReason}
use Rattle.check_watch.specs.Past.{scene_in_group}
use Rattle.check_watch.specs.Plan.{seen_at}
use Rattle.check_sides.specs.Groups.{is_alone, past_at, plan_at, port_past, port_plan}
use Rattle.check_sides.specs.Lawful.{scene}
use Rattle.check_sides.specs.Plan.{Layout}
use Rattle.check_sides.specs.View.{Keeps, View}
use Rattle.check_sides.proofs.Grouping.{of_group}
use Rattle.check_sides.proofs.Keeping.{alone_before, found_before, kept_here, own_port, placed_before, wide_before}
use Rattle.check_sides.proofs.Outcomes.{if_none}
use Rattle.check_sides.proofs.watch.Watch.reason_alone.Goals as goal

-- the link has its place
pub index-requires : goal.index-requires
index-requires c =
    let view : View = record {
      layout = c.self.inside.shared.layout;
      shared = c.self.inside.shared;
      ports = c.self.inside.ports.items;
    } in
    let placed =
    placed_before view c.args.self.now c.args.port c.args.link c.self.view_is c.requires.here c.requires.alone c.self.invariant
    c.requires.beat.known in
    omega (arith, placed)

pub reason-requires : goal.reason-requires
reason-requires c =
    let view : View = record {
      layout = c.self.inside.shared.layout;
      shared = c.self.inside.shared;
      ports = c.self.inside.ports.items;
    } in
    record {
      lanes = wide_before view c.args.self.now c.args.port c.args.link c.self.view_is c.requires.here c.requires.alone
          c.self.invariant c.requires.beat.known c.index.result.now c.index.ensures (length c.args.lanes.now)
          c.requires.beat.lanes;
    }

pub returns-clause-reason : goal.returns-clause-reason
returns-clause-reason c plan past keeps =
    let port = c.args.port in
    let beat = c.args.beat.now in
    let known = c.args.known in
    let lanes = c.args.lanes.now in
    let one = c.index.result.now in
    let view : View = record {
      layout = c.self.inside.shared.layout;
      shared = c.self.inside.shared;
      ports = c.self.inside.ports.items;
    } in
    let inside : Keeps plan past view = subst (Keeps plan past) (sym c.self.view_is) keeps in
    let alone : is_alone plan.layout (Port port) ≡ true =
    subst (λ (l : Layout). is_alone l (Port port) ≡ true) inside.suits.layout
    (alone_before view c.args.self.now port c.args.link c.self.view_is c.requires.here c.requires.alone) in
    let found = found_before view c.args.self.now port c.args.link c.self.view_is c.requires.here c.requires.alone
    c.self.invariant c.requires.beat.known one c.index.ensures in
    let here = kept_here plan past view port beat known lanes inside alone one found in
    let own = own_port plan past view port beat known lanes inside alone c.rules-rules.result c.map-map.result.now
    (ap (λ (l : Layout). l.rules) (sym inside.suits.layout) ∙ sym c.rules-rules.ensures)
    (ap (λ (l : Layout). l.ports) (sym inside.suits.layout) ∙ sym c.map-map.ensures) in
    subst (λ (l : Link). IfSome c.reason.result (IsFirstReason (plan_at plan l) (past_at plan.layout l past) (seen_at l beat known lanes)))
    (sym c.requires.here)
    (of_group plan past (Port port) (λ p l. IfSome c.reason.result (IsFirstReason p l (seen_at (Port port) beat known lanes)))
    true alone (c.reason.ensures.reason (port_plan plan) (port_past port past) own here))

pub returns-clause-allowed : goal.returns-clause-allowed
returns-clause-allowed c plan past keeps =
    let port = c.args.port in
    let beat = c.args.beat.now in
    let known = c.args.known in
    let lanes = c.args.lanes.now in
    let one = c.index.result.now in
    let view : View = record {
      layout = c.self.inside.shared.layout;
      shared = c.self.inside.shared;
      ports = c.self.inside.ports.items;
    } in
    let inside : Keeps plan past view = subst (Keeps plan past) (sym c.self.view_is) keeps in
    let alone : is_alone plan.layout (Port port) ≡ true =
    subst (λ (l : Layout). is_alone l (Port port) ≡ true) inside.suits.layout
    (alone_before view c.args.self.now port c.args.link c.self.view_is c.requires.here c.requires.alone) in
    let found = found_before view c.args.self.now port c.args.link c.self.view_is c.requires.here c.requires.alone
    c.self.invariant c.requires.beat.known one c.index.ensures in
    let here = kept_here plan past view port beat known lanes inside alone one found in
    let own = own_port plan past view port beat known lanes inside alone c.rules-rules.result c.map-map.result.now
    (ap (λ (l : Layout). l.rules) (sym inside.suits.layout) ∙ sym c.rules-rules.ensures)
    (ap (λ (l : Layout). l.ports) (sym inside.suits.layout) ∙ sym c.map-map.ensures) in
    subst (λ (l : Link). IfNone c.reason.result (IsAllowed (plan_at plan l) (scene plan past (seen_at l beat known lanes)) (seen_at l beat known lanes)))
    (sym c.requires.here)
    (of_group plan past (Port port)
    (λ p l. IfNone c.reason.result (IsAllowed p (scene_in_group p l (seen_at (Port port) beat known lanes)) (seen_at (Port port) beat known lanes)))
    true alone (if_none c.reason.result (λ lawful. lawful.1) (c.reason.ensures.allowed (port_plan plan) (port_past port past) own here)))
