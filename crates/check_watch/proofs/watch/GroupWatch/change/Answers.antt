use Rattle.std.proofs.Common.{sym, subst}
use Rattle.std.specs.Prelude.{◌∷◌}
use Rattle.check_watch.specs.declared.beat.Beat.{Beat}
use Rattle.check_watch.specs.Lawful.{IsLawfulGroup}
use Rattle.check_watch.specs.Pending.{IsGroupChange}
use Rattle.check_watch.specs.Plan.{seen_at}
use Rattle.check_watch.proofs.watch.GroupWatch.change.Goals as goal

pub returns-in-A-clause-change : goal.returns-in-A-clause-change
returns-in-A-clause-change c plan past known lanes keeps =
    let P : Beat → Type 0 =
    λ b. IsLawfulGroup plan (seen_at c.args.link b known lanes ∷ past)
    → IsGroupChange plan past (seen_at c.args.link b known lanes) c.ask_change.result in
    subst P (sym c.in-A.is) (c.ask_change.ensures.change plan past known lanes keeps)

pub returns-in-D-clause-change : goal.returns-in-D-clause-change
returns-in-D-clause-change c plan past known lanes keeps =
    let P : Beat → Type 0 =
    λ b. IsLawfulGroup plan (seen_at c.args.link b known lanes ∷ past)
    → IsGroupChange plan past (seen_at c.args.link b known lanes) c.reply_change.result in
    subst P (sym c.in-D.is) (c.reply_change.ensures.change plan past known lanes keeps)
