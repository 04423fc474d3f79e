-- The bells stay, and only masters are owed a ring.
use Rattle.std.proofs.Common.{◌≤◌, ◌∙◌, length, vec_len, arith}
use Rattle.tl_workers.proofs.worker_thread.run_worker.Goals as goal

pub loop-preserved : goal.loop-preserved
loop-preserved g c =
    let bells = c.is_held-held.ensures.bells ∙ c.next_ring.ensures.bells ∙ c.loop.invariant.2 in
    let within : length c.sources-sources.result.now ≤ vec_len c.is_held-held.new.bells.others =
    rw (bells, c.sources-sources.ensures.value) (omega arith) in (
      c.loop.invariant.0,
      c.loop.invariant.1,
      bells,
      c.owe.ensures (vec_len c.is_held-held.new.bells.others) within c.is_held-held.ensures.owed,
    )
