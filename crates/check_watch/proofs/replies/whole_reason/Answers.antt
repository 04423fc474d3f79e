use Rattle.check_watch.specs.Plan.{wider_bus}
use Rattle.check_watch.specs.View.{crossing_at}
use Rattle.check_watch.proofs.replies.whole_reason.Goals as goal

pub returns-clause-reason : goal.returns-clause-reason
returns-clause-reason c =
    rw (← c.is_given.ensures, c.if-is_given.false, ← c.due.ensures, ← c.capture.ensures)
    (c.due_reason.ensures.reason (wider_bus c.args.watch.now.layout c.args.link c.args.place.port) (crossing_at c.args.watch.now.crossings c.args.place.wide))

pub returns-clause-none : goal.returns-clause-none
returns-clause-none c =
    rw (← c.is_given.ensures, c.if-is_given.false, ← c.due.ensures, ← c.capture.ensures)
    (c.due_reason.ensures.none (wider_bus c.args.watch.now.layout c.args.link c.args.place.port) (crossing_at c.args.watch.now.crossings c.args.place.wide))
