use Rattle.std.proofs.Common.{take}
use Rattle.tl_script.specs.System.{sends}
use Rattle.tl_workers.specs.Start.{AddsArrivals}
use Rattle.tl_workers.proofs.setup.count_sends.Given as goal

-- the requests of the operations so far are counted
abbrev pub invariant-loop-number : goal.invariant-loop-number
invariant-loop-number l = AddsArrivals l.fn.map (sends (take l.number l.jobs)) l.initial.counts l.counts
