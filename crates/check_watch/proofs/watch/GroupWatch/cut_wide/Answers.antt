use Rattle.std.proofs.Common.{ℕ, subst}
use Rattle.check_watch.specs.declared.beat.Link.TheVariants.{Port}
use Rattle.check_watch.specs.Reset.{AreLeft, IsCutOpen}
use Rattle.check_watch.specs.View.{GroupView, state_in}
use Rattle.check_watch.proofs.Resetting.{either_side, on_ok, suits_after}
use Rattle.check_watch.proofs.watch.GroupWatch.cut_wide.Goals as goal

pub returns-clause-cut : goal.returns-clause-cut
returns-clause-cut c = λ plan suits.
    let view = c.args.self.now in
    let mid = c.cut_sent.new.self in
    let P : GroupView → Type 0 = λ v.
    AreLeft (λ port ask. (number : ℕ) × IsCutOpen plan (state_in v) (Port number) c.args.wide port ask) mid.slaves
    c.cut_taken.new.self.slaves in
    on_ok c.cut_taken.result
    (λ second. either_side plan (state_in view) c.args.wide view.slaves mid.slaves c.cut_taken.new.self.slaves
    (c.in_ok-cut_sent.ensures.cut plan suits) (subst P c.cut_sent.ensures.rest second))
    (c.cut_taken.ensures.cut plan (suits_after plan view mid c.cut_sent.ensures.rest suits))
