use Rattle.std.proofs.Common.{◌∙◌, ◌<◌, length, sym, ap, subst, arith}
use Rattle.check_watch.specs.declared.beat.Link.TheVariants.{Port}
use Rattle.check_watch.specs.Plan.{Layout}
use Rattle.check_watch.specs.Reset.{AreLeft, IsCutUnderWay}
use Rattle.check_watch.specs.View.{GroupView, state_in}
use Rattle.check_watch.proofs.Resetting.{all_numbers, one_more, suits_after}
use Rattle.check_watch.proofs.watch.GroupWatch.cut_arriving.Goals as goal

pub loop-port-preserved : goal.loop-port-preserved
loop-port-preserved c =
    let view = c.args.self.now in
    let mid = c.loop-port.self in
    let new = c.cut_under_way.new.self in
    let number = c.loop-port.port in
    record {
      rest = c.cut_under_way.ensures.rest ∙ ap (λ (v : GroupView). record v { slaves = new.slaves }) c.loop-port.invariant.rest;
      counted = c.cut_under_way.ensures.counted ∙ c.loop-port.invariant.counted;
      cut = λ plan suits.
          let P : GroupView → Type 0 = λ v.
          AreLeft (IsCutUnderWay plan (state_in v) (Port number)) mid.slaves new.slaves in
          one_more (λ n. IsCutUnderWay plan (state_in view) (Port n)) view.slaves mid.slaves new.slaves number
          (c.loop-port.invariant.cut plan suits)
          (subst P c.loop-port.invariant.rest
          (c.in_ok-cut_under_way.ensures.cut plan (suits_after plan view mid c.loop-port.invariant.rest suits)));
    }

pub returns-clause-cut : goal.returns-clause-cut
returns-clause-cut c = λ plan suits.
    let view = c.args.self.now in
    all_numbers (λ n. IsCutUnderWay plan (state_in view) (Port n)) view.slaves c.loop-port.self.slaves c.loop-port.port
    (λ number port ask is.
    let known : number < length c.self.inside.wiring.ports =
    subst (λ (l : Layout). number < length l.ports) (sym (ap (λ (v : GroupView). v.layout) c.self.view_is ∙ suits.layout))
    is.0.known in
    omega (arith, known, c.self.invariant.ports, c.links-port-end.ensures, c.loop-port-test.false))
    (c.loop-port.invariant.cut plan suits)
