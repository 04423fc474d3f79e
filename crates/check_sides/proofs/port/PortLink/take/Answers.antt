-- A beat that is not lawful.
use Rattle.check_watch.specs.declared.beat.Link.TheVariants.{Port}
use Rattle.check_watch.specs.Plan.{seen_at}
use Rattle.check_watch.proofs.Keeping.{no_reason}
use Rattle.check_watch.proofs.Stepping.{unlawful_take}
use Rattle.check_sides.proofs.port.PortLink.take.Goals as goal

pub returns-in-Some-clause-taken : goal.returns-in-Some-clause-taken
returns-in-Some-clause-taken c plan past own keeps =
    let x = seen_at (Port c.args.port) c.args.beat.now c.args.known c.args.lanes.now in
    unlawful_take _ _ _ _
    (λ lawful. no_reason plan past x c.in-Some._reason lawful (c.in-Some.ensures.reason plan past own keeps))
