-- A beat that is not lawful.
use Rattle.check_watch.specs.Plan.{seen_at}
use Rattle.check_watch.proofs.Keeping.{no_reason}
use Rattle.check_watch.proofs.Stepping.{unlawful_step}
use Rattle.check_watch.proofs.watch.GroupWatch.step.Goals as goal

pub returns-in-Err-clause-judged : goal.returns-in-Err-clause-judged
returns-in-Err-clause-judged c plan past keeps =
    let x = seen_at c.args.link c.args.beat.now c.args.known c.args.lanes.now in
    let first = c.in-Err.ensures.reason plan past keeps in
    unlawful_step _ _ _ _ _ c.fault.result (λ lawful. no_reason plan past x c.in-Err.reason lawful first)
    (c.fault.ensures plan past keeps first)
