-- The ranges of a port end in the address space.
use Rattle.std.proofs.Common.{zero, suc, ◌+◌, ◌^◌, ◌≤◌, Bool, true, false, List, [], ◌∷◌, arith}
use Rattle.tl_map.specs.declared.range.Range.{Range}
use Rattle.check_memory.specs.Partial.{AreWithin}
use Rattle.check_description.specs.Mirror.{ranges_kept}
use Rattle.check_description.specs.Ranges.{AreRangesOfPort, first_base, first_length}

-- the first one does
pub first_within : (ranges : List Range) → AreRangesOfPort ranges → first_base ranges + first_length ranges ≤ 2 ^ 64
first_within [] lawful = absurd (omega (arith, lawful.some))
first_within (range ∷ ranges) lawful = (lawful.each 0 range (omega arith)).in_space

-- all do
pub all_within : (ranges : List Range) → AreRangesOfPort ranges → AreWithin ranges (2 ^ 64)
all_within ranges lawful place d inside = (lawful.each place d inside).in_space

-- so do those in which the memory stands
pub kept_within : (mirror : Bool) (ranges : List Range) → AreRangesOfPort ranges → AreWithin (ranges_kept mirror ranges) (2 ^ 64)
kept_within false ranges lawful = all_within ranges lawful
kept_within true [] lawful = all_within [] lawful
kept_within true (range ∷ ranges) lawful = All-head_only range (first_within (range ∷ ranges) lawful)
  where
    All-head_only : (one : Range) → one.base + one.length ≤ 2 ^ 64 → AreWithin (one ∷ []) (2 ^ 64)
    All-head_only one end zero d inside = end
    All-head_only one end (suc place) d inside = absurd (omega (arith, inside))
