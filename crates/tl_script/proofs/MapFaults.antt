-- Behind the last range no fault is left but want of memory, and ranges without a fault make a map.
use Rattle.std.proofs.Common.{◌≡◌, ℕ, zero, suc, ◌+◌, ◌*◌, ◌^◌, ◌<◌, ◌≤◌, List, length, get_or, slice_get, All, arith}
use Rattle.tl_map.specs.declared.range.Range.{Range}
use Rattle.tl_script.specs.declared.map.MapFault.TheVariants.{TooMany, EmptyRange, PastEnd, Overlap, Memory}
use Rattle.tl_script.specs.declared.map.TheConstants.{MAX_RANGES}
use Rattle.tl_map.specs.Range.{IsEmpty, IsPastEnd}
use Rattle.tl_script.specs.Map.{RangesOverlap, AreLawfulRanges, NoneBefore}
use Rattle.tl_map.specs.Map.{IsLawfulRange}
use Rattle.tl_map.proofs.Place.{at_place, place_within, some_that}

-- the later of two ranges that overlap is there
later_within : (ranges : List Range) (j i : ℕ) → RangesOverlap ranges j i → i < length ranges
later_within ranges j i h =
    let found = some_that _ (slice_get ranges j) h in
    place_within _ ranges i found.2

-- after the last range only memory can be wanting
pub all_tried : (ranges : List Range) (p : ℕ) → length ranges ≤ p → length ranges ≤ MAX_RANGES
    → NoneBefore ranges (EmptyRange p) → NoneBefore ranges Memory
all_tried ranges p past few none TooMany before has = omega (arith, few, has)
all_tried ranges p past few none (EmptyRange k) before has =
    let within = place_within IsEmpty ranges k has in
    let up : 3 * k + 1 < 3 * p + 1 = omega arith in
    none (EmptyRange k) up has
all_tried ranges p past few none (PastEnd k) before has =
    let within = place_within IsPastEnd ranges k has in
    let up : 3 * k + 2 < 3 * p + 1 = omega arith in
    none (PastEnd k) up has
all_tried ranges p past few none (Overlap j k) before has =
    let within = later_within ranges j k has.here in
    let up : 3 * k + 3 < 3 * p + 1 = omega arith in
    none (Overlap j k) up has
all_tried ranges p past few none Memory before has = let below : 3 * MAX_RANGES + 1 < 3 * MAX_RANGES + 1 = before in
    absurd (omega arith)

-- ---- ranges without a fault make a map

module _ (ranges : List Range) (few : length ranges ≤ MAX_RANGES) (none : NoneBefore ranges Memory) where
  none_overlaps : (n j i : ℕ) → j < n → j < i → i < length ranges → RangesOverlap ranges j i → ⊥
  none_overlaps zero j i below lower within h = omega (arith, below)
  none_overlaps (suc n) j i below lower within h =
      let up : 3 * i + 3 < 3 * MAX_RANGES + 1 = omega arith in
      none (Overlap j i) up (record {
        before = lower;
        here = h;
        lowest = λ k less. none_overlaps n k i (omega (arith, below, less)) (omega (arith, lower, less)) within;
      })

  pub lawful_ranges : AreLawfulRanges ranges
  lawful_ranges = record {
    in_limit = few;
    some = λ k d within h. let up : 3 * k + 1 < 3 * MAX_RANGES + 1 = omega arith in
        none (EmptyRange k) up (at_place IsEmpty ranges k d within h);
    in_space = λ k d within h. let up : 3 * k + 2 < 3 * MAX_RANGES + 1 = omega arith in
        none (PastEnd k) up (at_place IsPastEnd ranges k d within h);
    apart = λ j i lower h. let within = later_within ranges j i h in
        none_overlaps (suc j) j i (omega arith) lower within h;
  }

-- each range of a map has a byte, and none past the end
pub each_lawful : (ranges : List Range) → AreLawfulRanges ranges → All IsLawfulRange ranges
each_lawful ranges lawful = λ k d within.
    let some : (get_or ranges k d).length ≡ 0 → ⊥ = lawful.some k d within in
    let ends : 2 ^ 64 < (get_or ranges k d).base + (get_or ranges k d).length → ⊥ = lawful.in_space k d within in
    record { some = omega (arith, some); in_space = omega (arith, ends) }
