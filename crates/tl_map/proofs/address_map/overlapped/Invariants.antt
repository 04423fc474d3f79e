use Rattle.std.proofs.Common.{ℕ, ◌<◌}
use Rattle.tl_map.specs.Map.{MeetsEarlier, lists_in}
use Rattle.tl_map.proofs.address_map.overlapped.Given as goal

-- none of the ports so far has a range that it meets
abbrev pub invariant-loop-other : goal.invariant-loop-other
invariant-loop-other l = (lower : ℕ) → lower < l.other → MeetsEarlier (lists_in l.ports) lower l.port l.place → ⊥
