use Rattle.std.proofs.Common.{◌≡◌, ◌+◌, ◌≤◌, vec_len, vec_capacity, length}
use Rattle.std.specs.Vec.Iter.{into_iter_items, into_iter_len}
use Rattle.tl_workers.specs.Start.{AreFrom, IsPromised, IsTraceOf}
use Rattle.tl_workers.proofs.run.join_masters.Given as goal

-- those that are joined have given their traces, and the others' promises stand
abbrev pub invariant-loop-handle : goal.invariant-loop-handle
invariant-loop-handle g l = record {
  count : vec_len l.traces + into_iter_len l.handle-iterator ≡ vec_len l.fn.handles;
  room : vec_len l.fn.handles ≤ vec_capacity l.traces;
  promised : AreFrom (IsPromised l.fn.arena l.fn.system.ranges l.fn.system.jobs) (length l.traces.items)
      (into_iter_items l.handle-iterator);
  traces : AreFrom (IsTraceOf l.fn.arena l.fn.system.ranges l.fn.system.jobs) 0 l.traces.items;
}
