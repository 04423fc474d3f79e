use Rattle.tl_workers.specs.Trace.{IsSame}
use Rattle.tl_workers.proofs.master_thread.collect_all.Given as goal

abbrev pub invariant-loop : goal.invariant-loop
invariant-loop g l =
    (goal.iterator-loop g).can_next l.iterator' × (goal.iterator-loop g).is_finite l.iterator'
    × IsSame l.fn.master l.master
