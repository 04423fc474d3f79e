-- Which range of its port has a request, as decoders see it, and whether the request has the first byte of that range or the
-- last one. This project's own.
use Rattle.std.specs.Prelude.{ℕ, ◌+◌, ◌^◌, ◌&&◌, Bool, nat_le, nat_lt, if◌then◌else◌, List, [], ◌∷◌, Option, Some, None, slice_get, unwrap_or}
use Rattle.tl_map.specs.declared.range.Range.{Range}
use Rattle.check_beats.specs.Rules.{decoded_size}
use Rattle.check_beats.specs.declared.beat.AskHead.{AskHead}
use Rattle.check_sides.specs.Plan.{Plan}
use Rattle.check_coverage.specs.declared.ranges.RangePlace.{RangePlace}

-- so many bytes from an address on have the first byte of the range, or the last one
abbrev pub has_first : Range → ℕ → ℕ → Bool
has_first range address span = nat_le address range.base && nat_lt range.base (address + span)

-- these bytes have the last byte of the range
abbrev pub has_last : Range → ℕ → ℕ → Bool
has_last range address span =
    nat_lt address (range.base + range.length) && nat_le (range.base + range.length) (address + span)

-- the first of these ranges, numbered from this number on, that holds as many bytes from the address on as decoders look at;
-- whether it holds all of the request, and which of its ends the request has
abbrev pub place_from : ℕ → ℕ → ℕ → ℕ → List Range → Option RangePlace
place_from number address decoded span [] = None
place_from number address decoded span (range ∷ ranges) =
    if nat_le range.base address && nat_le (address + decoded) (range.base + range.length)
    then Some (record {
      number = number;
      is_within = nat_le range.base address && nat_le (address + span) (range.base + range.length);
      has_first = has_first range address span;
      has_last = has_last range address span;
    })
    else place_from (number + 1) address decoded span ranges

-- the ranges of a port; the error port has none
abbrev pub ranges_of : List (List Range) → ℕ → List Range
ranges_of ports port = unwrap_or (slice_get ports port) []

-- where a request stands in a port
abbrev pub place_at : Plan → ℕ → AskHead → Option RangePlace
place_at plan port beat =
    place_from 0 beat.address (2 ^ decoded_size plan.layout.rules beat.size) (2 ^ beat.size)
    (ranges_of plan.layout.ports port)
