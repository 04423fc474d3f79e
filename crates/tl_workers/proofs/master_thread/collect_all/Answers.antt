use Rattle.tl_workers.proofs.Asking.{same_then}
use Rattle.tl_workers.proofs.master_thread.collect_all.Goals as goal

pub returns-then-out-eq0-clause-same : goal.returns-then-out-eq0-clause-same
returns-then-out-eq0-clause-same g c =
    same_then c.args.master.now c.loop.master c.look_at_all.new.master c.loop.invariant.2 c.look_at_all.ensures

pub loop-preserved : goal.loop-preserved
loop-preserved g c = (
  c.loop.invariant.0,
  c.loop.invariant.1,
  same_then c.args.master.now c.loop.master c.look_at_all.new.master c.loop.invariant.2 c.look_at_all.ensures,
)
