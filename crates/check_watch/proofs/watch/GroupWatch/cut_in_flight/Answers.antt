use Rattle.std.proofs.Common.{◌∙◌, ◌<◌, length, sym, ap, subst, arith}
use Rattle.check_watch.specs.declared.beat.Link.{Link}
use Rattle.check_watch.specs.Plan.{link_number}
use Rattle.check_watch.specs.Reset.{AreLeft, IsCutOpen}
use Rattle.check_watch.specs.View.{GroupView, state_in, wides_in}
use Rattle.check_watch.proofs.Resetting.{all_numbers, one_more, suits_after, wide_kept}
use Rattle.check_watch.proofs.watch.GroupWatch.cut_in_flight.Goals as goal

pub loop-wide-preserved : goal.loop-wide-preserved
loop-wide-preserved c =
    let view = c.args.self.now in
    let mid = c.loop-wide.self in
    let new = c.cut_wide.new.self in
    let number = c.loop-wide.wide in
    record {
      rest = c.cut_wide.ensures.rest ∙ ap (λ (v : GroupView). record v { slaves = new.slaves }) c.loop-wide.invariant.rest;
      counted = c.cut_wide.ensures.counted ∙ c.loop-wide.invariant.counted;
      cut = λ plan suits.
          let P : GroupView → Type 0 = λ v.
          AreLeft (λ port ask. (link : Link) × IsCutOpen plan (state_in v) link number port ask) mid.slaves new.slaves in
          one_more (λ n port ask. (link : Link) × IsCutOpen plan (state_in view) link n port ask) view.slaves mid.slaves
          new.slaves number (c.loop-wide.invariant.cut plan suits)
          (subst P c.loop-wide.invariant.rest
          (c.in_ok-cut_wide.ensures.cut plan (suits_after plan view mid c.loop-wide.invariant.rest suits)));
    }

pub returns-clause-cut : goal.returns-clause-cut
returns-clause-cut c = λ plan suits.
    let view = c.args.self.now in
    all_numbers (λ n port ask. (link : Link) × IsCutOpen plan (state_in view) link n port ask) view.slaves
    c.loop-wide.self.slaves c.loop-wide.wide (λ number port ask is.
    let kept : number < length c.self.inside.crossings.items =
    subst (λ (v : GroupView). number < wides_in v) (sym c.self.view_is)
    (wide_kept view c.sized.ensures.sized is.0 number (link_number is.0) ask is.1.1.0) in
    omega (arith, kept, c.loop-wide-test.false))
    (c.loop-wide.invariant.cut plan suits)
