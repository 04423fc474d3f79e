-- The change is that where beats cross.
use Rattle.std.proofs.Common.{sym, subst}
use Rattle.check_turns.specs.View.{KeepsOrdered}
use Rattle.check_turns.proofs.watch.OrderedWatch.change.Goals as goal

pub returns-clause-change : goal.returns-clause-change
returns-clause-change c plan past known lanes keeps lawful =
    c.change.ensures.change plan past known lanes (subst (KeepsOrdered plan past) (sym c.self.view_is) keeps).beats lawful.beats
