use Rattle.std.proofs.Common.{◌≡◌, ◌+◌, ◌≤◌, vec_len, vec_capacity}
use Rattle.std.specs.Vec.Iter.{into_iter_len}
use Rattle.tl_workers.proofs.run.start_workers.Given as goal

-- there is room for the handles of all that are left to start
abbrev pub invariant-loop-worker : goal.invariant-loop-worker
invariant-loop-worker g l =
    (vec_len l.handles + into_iter_len l.worker-iterator ≡ vec_len l.fn.workers)
    × (vec_len l.fn.workers ≤ vec_capacity l.handles)
