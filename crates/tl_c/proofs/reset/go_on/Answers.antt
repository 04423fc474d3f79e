-- The judge after a reset.
use Rattle.std.proofs.Common.{rules, ◌≡◌, IsTrue, refl, subst, sym}
use Rattle.check_sides.specs.Groups.{are_apart}
use Rattle.check_sides.specs.Plan.{Layout}
use Rattle.check_turns.specs.View.{KeepsOrdered, OrderedView}
use Rattle.tl_c.specs.Judging.{with_slaves}
use Rattle.tl_c.proofs.Resets.{same_loads}
use Rattle.tl_c.proofs.reset.go_on.Goals as goal

pub returns-clause-reset : goal.returns-clause-reset
returns-clause-reset c plan past keeps =
    let judge = c.args.judge.now in
    let copied : c.in_ok-watch.watch ≡ judge.watch = search rules in
    let kept : KeepsOrdered plan past c.in_ok-watch.watch =
    subst (λ (w : OrderedView). KeepsOrdered plan past w) (sym copied) keeps in
    let left = c.in_ok-reset.ensures.reset plan past kept in
    let apart : IsTrue (are_apart plan.layout) → IsTrue (are_apart judge.watch.layout) =
    λ yes. subst (λ (l : Layout). IsTrue (are_apart l)) (sym keeps.suits.layout) yes in
    record {
      resets = left.0;
      own = left.1;
      is = same_loads plan past c.in_ok-loaded.loaded.items c.in_ok-own.own.items judge.loads left.0 left.1
          c.in_ok-loaded.ensures (λ yes. c.in_ok-own.ensures (apart yes)) left.2;
      keeps = left.3;
      pending = λ rows holds. c.reset-2.ensures plan (with_slaves plan left.0 left.1) rows refl holds;
    }
