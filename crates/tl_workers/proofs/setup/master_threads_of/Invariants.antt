use Rattle.std.proofs.Common.{◌≡◌, ◌+◌, ◌≤◌, vec_len, vec_capacity, length}
use Rattle.std.specs.Vec.Iter.{into_iter_items, into_iter_len}
use Rattle.tl_workers.specs.Start.{AreFrom, IsNewMaster, IsNewMasterThread}
use Rattle.tl_workers.proofs.setup.master_threads_of.Given as goal

-- the threads so far are new, and the seats that are left are those of the masters that are left
abbrev pub invariant-loop-seat : goal.invariant-loop-seat
invariant-loop-seat l = record {
  count : vec_len l.threads + into_iter_len l.seat-iterator ≡ vec_len l.fn.seats;
  room : vec_len l.fn.seats ≤ vec_capacity l.threads;
  bells : vec_len l.bells ≡ vec_len l.threads;
  seats : AreFrom (IsNewMaster l.fn.arena) (length l.threads.items) (into_iter_items l.seat-iterator);
  threads : AreFrom (IsNewMasterThread l.fn.arena l.fn.system) 0 l.threads.items;
}
