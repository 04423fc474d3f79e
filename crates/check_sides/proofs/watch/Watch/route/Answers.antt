use Rattle.check_sides.proofs.watch.Watch.route.Goals as goal

pub returns : goal.returns
returns c port = rw (← c.self.view_is) (c.route.ensures.port port)
