use Rattle.std.proofs.Common.{ℕ, ◌<◌}
use Rattle.tl_script.specs.Map.{RangesOverlap}
use Rattle.tl_script.proofs.map.overlapped.Given as goal

-- none of the ranges so far has a byte in common with it
abbrev pub invariant-loop-other : goal.invariant-loop-other
invariant-loop-other l = (k : ℕ) → k < l.other → RangesOverlap l.ranges k l.place → ⊥
