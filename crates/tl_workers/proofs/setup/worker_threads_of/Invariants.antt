use Rattle.std.proofs.Common.{length}
use Rattle.std.specs.Prelude.{All}
use Rattle.std.specs.Vec.Iter.{into_iter_items}
use Rattle.tl_workers.specs.Start.{IsHeardAt, IsNewWorkerThread}
use Rattle.tl_workers.proofs.setup.worker_threads_of.Given as goal

-- the threads so far are new, and what is left is heard at its port
abbrev pub invariant-loop-listeners : goal.invariant-loop-listeners
invariant-loop-listeners l = record {
  heard : All (IsHeardAt l.journals l.workers) (into_iter_items l.listeners-iterator);
  threads : All (IsNewWorkerThread (length l.journals) (length l.initial.master_bells)) l.threads.items;
}
