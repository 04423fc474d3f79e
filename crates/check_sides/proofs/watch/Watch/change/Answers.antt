use Rattle.std.proofs.Common.{◌≡◌, true, false, sym, subst}
use Rattle.check_watch.specs.Plan.{seen_at}
use Rattle.check_sides.specs.Groups.{is_alone, shared_past}
use Rattle.check_sides.specs.Plan.{Layout}
use Rattle.check_sides.specs.View.{Keeps, View}
use Rattle.check_sides.proofs.Changes.{alone_changes, shared_changes}
use Rattle.check_sides.proofs.Keeping.{shared_allowed}
use Rattle.check_sides.proofs.watch.Watch.change.Goals as goal

pub returns-in-Some-clause-change : goal.returns-in-Some-clause-change
returns-in-Some-clause-change c plan past known lanes keeps lawful =
    alone_changes plan past (seen_at c.args.link c.args.beat.now known lanes)
    (subst (λ (l : Layout). is_alone l c.args.link ≡ true) keeps.suits.layout c.in-Some.ensures.alone.1)

pub returns-in-None-clause-change : goal.returns-in-None-clause-change
returns-in-None-clause-change c plan past known lanes keeps lawful =
    let x = seen_at c.args.link c.args.beat.now known lanes in
    let shared : is_alone plan.layout c.args.link ≡ false =
    subst (λ (l : Layout). is_alone l c.args.link ≡ false) keeps.suits.layout c.in-None.ensures.shared in
    let view : View = c.args.self.now in
    shared_changes plan past x shared c.change.result
    (c.change.ensures.change plan (shared_past plan.layout past) known lanes
    (subst (Keeps plan past) (sym c.self.view_is) keeps).shared
    (shared_allowed plan past view x keeps shared lawful))
