use Rattle.std.proofs.Common.{◌∙◌, ◌<◌, length, sym, ap, subst, arith}
use Rattle.check_watch.specs.declared.beat.Link.TheVariants.{Master}
use Rattle.check_watch.specs.Plan.{Layout}
use Rattle.check_watch.specs.Reset.{AreLeft, IsCutUnderWay}
use Rattle.check_watch.specs.View.{GroupView, state_in}
use Rattle.check_watch.proofs.Resetting.{all_numbers, one_more, suits_after}
use Rattle.check_watch.proofs.watch.GroupWatch.cut_sending.Goals as goal

pub loop-master-preserved : goal.loop-master-preserved
loop-master-preserved c =
    let view = c.args.self.now in
    let mid = c.loop-master.self in
    let new = c.cut_under_way.new.self in
    let number = c.loop-master.master in
    record {
      rest = c.cut_under_way.ensures.rest ∙ ap (λ (v : GroupView). record v { slaves = new.slaves }) c.loop-master.invariant.rest;
      counted = c.cut_under_way.ensures.counted ∙ c.loop-master.invariant.counted;
      cut = λ plan suits.
          let P : GroupView → Type 0 = λ v.
          AreLeft (IsCutUnderWay plan (state_in v) (Master number)) mid.slaves new.slaves in
          one_more (λ n. IsCutUnderWay plan (state_in view) (Master n)) view.slaves mid.slaves new.slaves number
          (c.loop-master.invariant.cut plan suits)
          (subst P c.loop-master.invariant.rest
          (c.in_ok-cut_under_way.ensures.cut plan (suits_after plan view mid c.loop-master.invariant.rest suits)));
    }

pub returns-clause-cut : goal.returns-clause-cut
returns-clause-cut c = λ plan suits.
    let view = c.args.self.now in
    all_numbers (λ n. IsCutUnderWay plan (state_in view) (Master n)) view.slaves c.loop-master.self.slaves c.loop-master.master
    (λ number port ask is.
    let known : number < length c.self.inside.wiring.owners =
    subst (λ (l : Layout). number < length l.owners) (sym (ap (λ (v : GroupView). v.layout) c.self.view_is ∙ suits.layout))
    is.0.known in
    omega (arith, known, c.self.invariant.masters, c.links-master-end.ensures, c.loop-master-test.false))
    (c.loop-master.invariant.cut plan suits)
