use Rattle.tl_workers.proofs.Asking.{poll_same}
use Rattle.tl_workers.proofs.master_thread.poll_one.Goals as goal

pub returns : goal.returns
returns g c =
    poll_same c.args.master.now c.args.source c.poll.result c.poll.new.self c.poll.ensures.polls c.poll.ensures.asked
