-- The group of a link that is judged with others.
use Rattle.std.proofs.Common.{◌≡◌, false, sym, subst}
use Rattle.std.specs.Prelude.{IfNone, IfSome}
use Rattle.check_watch.specs.Lawful.{IsAllowed, IsFirstReason}
use Rattle.check_watch.specs.Past.{scene_in_group}
use Rattle.check_watch.specs.Plan.{Layout, seen_at}
use Rattle.check_sides.specs.Groups.{is_alone, shared_past}
use Rattle.check_sides.specs.View.{Keeps}
use Rattle.check_sides.proofs.Grouping.{of_group}
use Rattle.check_sides.proofs.Outcomes.{if_none}
use Rattle.check_sides.proofs.watch.Watch.reason_shared.Goals as goal

pub returns-clause-reason : goal.returns-clause-reason
returns-clause-reason c plan past keeps =
    let link = c.args.link in
    let x = seen_at link c.args.beat.now c.args.known c.args.lanes.now in
    let inside = subst (Keeps plan past) (sym c.self.view_is) keeps in
    let shared : is_alone plan.layout link ≡ false =
    subst (λ (l : Layout). is_alone l link ≡ false) keeps.suits.layout c.requires.shared in
    of_group plan past link (λ p l. IfSome c.reason.result (IsFirstReason p l x)) false shared
    (c.reason.ensures.reason plan (shared_past plan.layout past) inside.shared)

pub returns-clause-allowed : goal.returns-clause-allowed
returns-clause-allowed c plan past keeps =
    let link = c.args.link in
    let x = seen_at link c.args.beat.now c.args.known c.args.lanes.now in
    let inside = subst (Keeps plan past) (sym c.self.view_is) keeps in
    let shared : is_alone plan.layout link ≡ false =
    subst (λ (l : Layout). is_alone l link ≡ false) keeps.suits.layout c.requires.shared in
    of_group plan past link (λ p l. IfNone c.reason.result (IsAllowed p (scene_in_group p l x) x)) false shared
    (if_none c.reason.result (λ lawful. lawful.1)
    (c.reason.ensures.allowed plan (shared_past plan.layout past) inside.shared))
