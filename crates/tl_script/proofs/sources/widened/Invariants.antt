-- The counts so far.
use Rattle.std.proofs.Common.{◌≡◌, take}
use Rattle.tl_script.proofs.sources.widened.Given as goal

abbrev pub invariant-loop-count : goal.invariant-loop-count
invariant-loop-count l = l.wide.items ≡ take l.count-index l.counts
