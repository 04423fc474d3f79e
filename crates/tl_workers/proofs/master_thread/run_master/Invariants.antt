use Rattle.std.proofs.Common.{◌≡◌, ◌+◌, vec_len, length}
use Rattle.tl_workers.specs.Trace.{IsDriven}
use Rattle.tl_workers.proofs.master_thread.run_master.Given as goal

-- the operations so far were done, and the bells are all there
abbrev pub invariant-loop-operation : goal.invariant-loop-operation
invariant-loop-operation g l = record {
  done : IsDriven l.fn.shared.arena.now l.fn.shared.system.now.ranges l.fn.number l.fn.jobs l.operation l.master;
  bells : vec_len l.bells.others ≡ length l.fn.shared.system.now.ranges + 1;
}
