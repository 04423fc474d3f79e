use Rattle.tl_workers.proofs.Routed.{wide_in_range}
use Rattle.tl_workers.proofs.worker_thread.master_of.Goals as goal

pub returns : goal.returns
returns c =
    let master = c.in_ok-master.master in
    let source = c.in_ok-master.field-0-1 in
    wide_in_range c.args.sources.now master source c.args.wide ((c.owner.ensures master source).0 c.in_ok-master.was)
