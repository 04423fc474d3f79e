-- The wiring tells the port.
use Rattle.check_watch.proofs.watch.GroupWatch.route.Goals as goal

pub returns-clause-port : goal.returns-clause-port
returns-clause-port c port = rw (← c.self.view_is) (c.route.ensures.port port)
