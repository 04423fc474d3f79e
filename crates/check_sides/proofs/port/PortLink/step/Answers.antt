-- A beat that is not lawful.
use Rattle.check_watch.specs.declared.beat.Link.TheVariants.{Port}
use Rattle.check_watch.specs.Plan.{seen_at}
use Rattle.check_watch.proofs.Keeping.{no_reason}
use Rattle.check_watch.proofs.Stepping.{unlawful_step}
use Rattle.check_sides.proofs.port.PortLink.step.Goals as goal

pub returns-in-Some-clause-judged : goal.returns-in-Some-clause-judged
returns-in-Some-clause-judged c plan past own keeps =
    let x = seen_at (Port c.args.port) c.args.beat.now c.args.known c.args.lanes.now in
    let first = c.in-Some.ensures.reason plan past own keeps in
    unlawful_step _ _ _ _ _ c.fault-fault.result (λ lawful. no_reason plan past x c.in-Some.reason lawful first)
    (c.fault-fault.ensures plan past own.rules keeps first)
