use Rattle.tl_workers.proofs.Asking.{same_then}
use Rattle.tl_workers.proofs.master_thread.look_at_all.Goals as goal

pub loop-source-preserved : goal.loop-source-preserved
loop-source-preserved g c =
    same_then c.args.master.now c.loop-source.master c.look_at.new.master c.loop-source.invariant c.look_at.ensures
