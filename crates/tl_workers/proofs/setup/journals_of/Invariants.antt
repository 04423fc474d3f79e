use Rattle.std.proofs.Common.{◌+◌, ◌*◌, ◌≤◌, length, replicate, take}
use Rattle.tl_script.specs.declared.system.TheConstants.{MAX_JOBS}
use Rattle.tl_workers.specs.Start.{AddsArrivals, all_sends}
use Rattle.tl_workers.proofs.setup.journals_of.Given as goal

-- the requests of the masters so far are counted, and they are not too many for a number
abbrev pub invariant-loop-jobs : goal.invariant-loop-jobs
invariant-loop-jobs l = record {
  counted : AddsArrivals l.fn.system.ranges (all_sends (take l.jobs-index l.fn.system.jobs))
      (replicate (length l.fn.system.ranges + 1) 0) l.counts.items;
  few : length (all_sends (take l.jobs-index l.fn.system.jobs)) ≤ l.jobs-index * MAX_JOBS;
}
