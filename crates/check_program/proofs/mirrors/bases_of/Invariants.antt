use Rattle.std.proofs.Common.{◌≡◌, map, take}
use Rattle.tl_map.specs.declared.range.Range.{Range}
use Rattle.check_program.proofs.mirrors.bases_of.Given as goal

-- the bases so far
abbrev pub invariant-loop-range : goal.invariant-loop-range
invariant-loop-range l = l.bases.items ≡ map (λ (range : Range). range.base) (take l.range-index l.ranges)
