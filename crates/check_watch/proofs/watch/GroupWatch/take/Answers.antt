-- A beat that is not lawful.
use Rattle.check_watch.specs.Plan.{seen_at}
use Rattle.check_watch.proofs.Keeping.{no_reason}
use Rattle.check_watch.proofs.Stepping.{unlawful_take}
use Rattle.check_watch.proofs.watch.GroupWatch.take.Goals as goal

pub returns-in-Err-clause-taken : goal.returns-in-Err-clause-taken
returns-in-Err-clause-taken c plan past keeps =
    let x = seen_at c.args.link c.args.beat.now c.args.known c.args.lanes.now in
    unlawful_take _ _ _ _
    (λ lawful. no_reason plan past x c.in-Err._reason lawful (c.in-Err.ensures.reason plan past keeps))
