-- Which ranges of ports make the map of a script, one range a port, and the faults of those that make none. All of it is
-- this project's own.
use Rattle.std.specs.Prelude.{ℕ, ◌+◌, ◌*◌, ◌<◌, ◌≤◌, ⊤, List, length, IsSomeAnd, slice_get, All}
use Rattle.tl_types.specs.Fault.{IsFirstOf}
use Rattle.tl_map.specs.declared.range.Range.{Range}
use Rattle.tl_map.specs.Range.{Overlaps, IsEmpty, IsPastEnd}
use Rattle.tl_script.specs.declared.map.MapFault.{MapFault}
use Rattle.tl_script.specs.declared.map.MapFault.TheVariants.{TooMany, EmptyRange, PastEnd, Overlap, Memory}
use Rattle.tl_script.specs.declared.map.TheConstants.{MAX_RANGES}

-- ---- which ranges make a map

-- ranges j and i have a byte in common
abbrev pub RangesOverlap : List Range → ℕ → ℕ → Type 0
RangesOverlap ranges j i = IsSomeAnd (slice_get ranges j) (λ a. IsSomeAnd (slice_get ranges i) (λ b. Overlaps a b))

-- few enough ranges, none of them empty, none past the end of the addresses, and no two with a byte in common. There are
-- at most 15 ranges.
pub record AreLawfulRanges (ranges : List Range) : Type 0 where
  pub in_limit : length ranges ≤ MAX_RANGES
  pub some : All (λ range. IsEmpty range → ⊥) ranges
  pub in_space : All (λ range. IsPastEnd range → ⊥) ranges
  pub apart : (j i : ℕ) → j < i → RangesOverlap ranges j i → ⊥

-- ---- the faults of ranges that make no map

-- range j is the lowest before range i that has a byte in common with it
pub record OverlapsFirst (ranges : List Range) (j i : ℕ) : Type 0 where
  pub before : j < i
  pub here : RangesOverlap ranges j i
  pub lowest : (k : ℕ) → k < j → RangesOverlap ranges k i → ⊥

-- the fault is one of these ranges; memory can be refused to any
abbrev pub HasRangeFault : List Range → MapFault → Type 0
HasRangeFault ranges TooMany = MAX_RANGES < length ranges
HasRangeFault ranges (EmptyRange i) = IsSomeAnd (slice_get ranges i) IsEmpty
HasRangeFault ranges (PastEnd i) = IsSomeAnd (slice_get ranges i) IsPastEnd
HasRangeFault ranges (Overlap j i) = OverlapsFirst ranges j i
HasRangeFault ranges Memory = ⊤

-- the place of a fault in the order in which faults are tried: too many ranges; then the three faults of range 0, of
-- range 1 and so on; and after those of the last range that a map may have, want of memory
abbrev pub range_fault_rank : MapFault → ℕ
range_fault_rank TooMany = 0
range_fault_rank (EmptyRange i) = 3 * i + 1
range_fault_rank (PastEnd i) = 3 * i + 2
range_fault_rank (Overlap j i) = 3 * i + 3
range_fault_rank Memory = 3 * MAX_RANGES + 1

-- the fault is the first one, in that order, of these ranges
abbrev pub IsFirstMapFault : List Range → MapFault → Type 0
IsFirstMapFault ranges = IsFirstOf (HasRangeFault ranges) range_fault_rank

-- no fault of these ranges is tried before this one
abbrev pub NoneBefore : List Range → MapFault → Type 0
NoneBefore ranges fault =
    (other : MapFault) → range_fault_rank other < range_fault_rank fault → HasRangeFault ranges other → ⊥
