use Rattle.std.proofs.Common.{◌≡◌, ◌+◌, ◌≤◌, vec_len, vec_capacity, length}
use Rattle.std.specs.Vec.Iter.{into_iter_items, into_iter_len}
use Rattle.tl_workers.specs.Start.{AreFrom, IsNewMasterThread, IsPromised}
use Rattle.tl_workers.proofs.run.start_masters.Given as goal

-- those that were started have promised, and of the others nothing was asked
abbrev pub invariant-loop-thread : goal.invariant-loop-thread
invariant-loop-thread g l = record {
  count : vec_len l.handles + into_iter_len l.thread-iterator ≡ vec_len l.fn.masters;
  room : vec_len l.fn.masters ≤ vec_capacity l.handles;
  masters : AreFrom (IsNewMasterThread l.fn.shared.arena.now l.fn.shared.system.now) (length l.handles.items)
      (into_iter_items l.thread-iterator);
  promised : AreFrom (IsPromised l.fn.shared.arena.now l.fn.shared.system.now.ranges l.fn.shared.system.now.jobs) 0 l.handles.items;
}
