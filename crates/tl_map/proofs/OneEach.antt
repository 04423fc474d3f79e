-- Ports with one range each.
use Rattle.std.proofs.Common.{◌≡◌, ℕ, zero, suc, ◌<◌, ◌≤◌, List, [], ◌∷◌, length, Some, slice_get, All, arith}
use Rattle.std.proofs.lemmas.List.{length-map}
use Rattle.std.proofs.lemmas.List.Elements.{All-map}
use Rattle.tl_map.specs.declared.range.Range.{Range}
use Rattle.tl_map.specs.declared.limits.TheConstants.{MAX_JUDGED_PORTS, MAX_RANGES_OF_PORT}
use Rattle.tl_map.specs.Map.{AreRanges, IsLawfulRange, one_each, range_at}
use Rattle.tl_map.proofs.Place.{of_all}

-- a range at a place of a port is the port's
pub only : (ranges : List Range) (port place : ℕ) (range : Range) → range_at (one_each ranges) port place ≡ Some range
    → slice_get ranges port ≡ Some range
only [] port place range at = absurd (cc)
only (one ∷ ranges) zero zero range at = at
only (one ∷ ranges) zero (suc place) range at = absurd (cc)
only (one ∷ ranges) (suc port) place range at = only ranges port place range at

pub of_only : (ranges : List Range) (port : ℕ) (range : Range) → slice_get ranges port ≡ Some range
    → range_at (one_each ranges) port 0 ≡ Some range
of_only [] port range at = absurd (cc)
of_only (one ∷ ranges) zero range at = at
of_only (one ∷ ranges) (suc port) range at = of_only ranges port range at

-- few enough lawful ranges are those of such ports
pub are_ranges : (ranges : List Range) → length ranges ≤ MAX_JUDGED_PORTS → All IsLawfulRange ranges
    → AreRanges (one_each ranges)
are_ranges ranges few lawful = record {
  in_limit = rw length-map few;
  some = All-map (λ (own : List Range). 0 < length own) (λ (range : Range). range ∷ []) ranges (λ k d within. omega arith);
  few = All-map (λ (own : List Range). length own ≤ MAX_RANGES_OF_PORT) (λ (range : Range). range ∷ []) ranges
      (λ k d within. omega arith);
  each = λ port place range at. of_all IsLawfulRange ranges port range (only ranges port place range at) lawful;
}
