use Rattle.check_sides.proofs.port.PortLink.end_reason.Goals as goal

pub returns-clause-reason : goal.returns-clause-reason
returns-clause-reason c wider crossing = rw (← c.due.ensures, ← c.capture.ensures) (c.due_reason.ensures.reason wider crossing)

pub returns-clause-none : goal.returns-clause-none
returns-clause-none c wider crossing = rw (← c.due.ensures, ← c.capture.ensures) (c.due_reason.ensures.none wider crossing)
