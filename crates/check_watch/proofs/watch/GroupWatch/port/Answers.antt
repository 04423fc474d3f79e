use Rattle.std.proofs.Common.{◌≡◌, ◌∙◌, ap, sym}
use Rattle.check_watch.specs.Plan.{link_number}
use Rattle.check_watch.proofs.watch.GroupWatch.port.Goals as goal

pub returns-in-Master-clause-master : goal.returns-in-Master-clause-master
returns-in-Master-clause-master c number port is =
    let same : c.in-Master.master ≡ number = ap link_number (sym c.in-Master.is ∙ is) in
    rw (← same) (c.route.ensures.port port)
