use Rattle.std.proofs.Common.{◌≡◌, ◌<◌, length, vec_len}
use Rattle.std.specs.Prelude.{All}
use Rattle.tl_workers.proofs.worker_thread.run_worker.Given as goal

-- the bells are all there, and those that are owed a ring have one
abbrev pub invariant-loop : goal.invariant-loop
invariant-loop g l =
    (goal.iterator-loop g).can_next l.iterator' × (goal.iterator-loop g).is_finite l.iterator'
    × (vec_len l.bells.others ≡ length l.fn.shared.system.now.jobs)
    × All (λ master. master < vec_len l.bells.others) l.owed.items
