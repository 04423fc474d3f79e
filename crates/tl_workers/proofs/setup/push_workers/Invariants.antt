use Rattle.std.proofs.Common.{ℕ, ◌<◌, length}
use Rattle.std.specs.Prelude.{All}
use Rattle.tl_workers.specs.Start.{IsNewWorkerThread}
use Rattle.tl_workers.proofs.setup.push_workers.Given as goal

-- those that were appended so far are of the port
abbrev pub invariant-loop-own : goal.invariant-loop-own
invariant-loop-own l =
    (ports : ℕ) → l.port < ports → All (IsNewWorkerThread ports (length l.initial.master_bells)) l.initial.threads.items
    → All (IsNewWorkerThread ports (length l.initial.master_bells)) l.threads.items
