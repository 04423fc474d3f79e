-- The reason where a beat crosses, if it is tried before the order of replies.
use Rattle.std.proofs.Common.{◌≡◌, ◌∙◌, ◌<◌, ap, sym, subst, arith}
use Rattle.check_watch.specs.Faults.{reason_rank}
use Rattle.check_watch.specs.Plan.{seen_at}
use Rattle.check_turns.specs.View.{KeepsOrdered}
use Rattle.check_turns.proofs.Judging.{none_before, none_there, tells_earlier, tells_out}
use Rattle.check_turns.proofs.watch.OrderedWatch.turn_fault.Goals as goal

pub returns-then-is_tried_before : goal.returns-then-is_tried_before
returns-then-is_tried_before c plan past keeps out =
    let x = seen_at c.args.link c.args.beat.now c.args.known c.args.lanes.now in
    let inside = subst (KeepsOrdered plan past) (sym c.self.view_is) keeps in
    let small : reason_rank c.in-Some.reason < 14 = c.is_tried_before.ensures.0 c.if-is_tried_before.true in
    tells_earlier plan past x c.in-Some.reason (c.in-Some.ensures.reason plan past inside.beats) small c.fault_of.result
    (c.fault_of.ensures (λ wrong.
    let rank : reason_rank c.in-Some.reason ≡ 20 = ap reason_rank wrong in absurd (omega (arith, rank, small))))

pub returns-else-is_tried_before : goal.returns-else-is_tried_before
returns-else-is_tried_before c plan past keeps out =
    let x = seen_at c.args.link c.args.beat.now c.args.known c.args.lanes.now in
    let inside = subst (KeepsOrdered plan past) (sym c.self.view_is) keeps in
    tells_out plan past x out
    (none_before plan past x c.in-Some.reason (c.in-Some.ensures.reason plan past inside.beats)
    (λ small. let wrong = sym (c.is_tried_before.ensures.1 small) ∙ c.if-is_tried_before.false in absurd (cc)))

pub returns-in-None : goal.returns-in-None
returns-in-None c plan past keeps out =
    let x = seen_at c.args.link c.args.beat.now c.args.known c.args.lanes.now in
    let inside = subst (KeepsOrdered plan past) (sym c.self.view_is) keeps in
    tells_out plan past x out
    (λ reason small has. none_there plan past x x.beat (c.in-None.ensures.allowed plan past inside.beats) reason has)
