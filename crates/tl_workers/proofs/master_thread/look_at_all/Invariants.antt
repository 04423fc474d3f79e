use Rattle.std.proofs.Common.{◌-◌}
use Rattle.tl_workers.specs.Trace.{IsSame}
use Rattle.tl_workers.proofs.master_thread.look_at_all.Given as goal

abbrev pub invariant-loop-source : goal.invariant-loop-source
invariant-loop-source g l = IsSame l.fn.master l.master

abbrev pub decreases-loop-source : goal.decreases-loop-source
decreases-loop-source g l = 65536 - l.from
