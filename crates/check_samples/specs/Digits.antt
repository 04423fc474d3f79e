-- The values that are kept of a dump, digit by digit, the highest bit's first. That a value with fewer digits than its
-- signal is extended so is the rule of IEEE 1364 ("Value change dump files").
use Rattle.std.specs.Prelude.{ℕ, ◌-◌, ◌==◌, ◌||◌, ◌&&◌, nat_le, List, [], ◌∷◌, ◌++◌, length, replicate, slice_range, get_or, set, Option, None, Some, slice_get, if◌then◌else◌}
use Rattle.std.specs.List.{flat_map}
use Rattle.check_samples.specs.declared.tap.Tap.{Tap}

-- before 0 and 1 stands 0; before x stands x, and before z stands z
abbrev pub fill_of : List ℕ → ℕ
fill_of [] = 120
fill_of (first ∷ digits) = if (first == 48) || (first == 49) then 48 else first

-- a value of so many bits
abbrev pub extended : ℕ → List ℕ → List ℕ
extended width digits = replicate (width - length digits) (fill_of digits) ++ digits

-- one that is not known
abbrev pub unknown : ℕ → List ℕ
unknown width = replicate width 120

-- the digits that a tap takes of a value
abbrev pub part_of : List ℕ → Tap → List ℕ
part_of digits tap =
    if nat_le tap.from tap.to && nat_le tap.to (length digits) then slice_range digits tap.from tap.to else []

-- the digits that a tap takes of a value; none if there is no value.
abbrev pub part_if_any : Option (List ℕ) → Tap → List ℕ
part_if_any None tap = []
part_if_any (Some digits) tap = part_of digits tap

-- the digits that a tap takes of values, of the one in its slot; none if there is no such slot.
abbrev pub bits_of : List (List ℕ) → Tap → List ℕ
bits_of values tap = part_if_any (slice_get values tap.slot) tap

-- the digits of several parts of values, one after the other
abbrev pub joined_of : List (List ℕ) → List Tap → List ℕ
joined_of values parts = flat_map (λ part. bits_of values part) parts

-- values, and behind them one that is put together of these parts of them
abbrev pub with_joined : List Tap → List (List ℕ) → List (List ℕ)
with_joined parts values = values ++ (joined_of values parts ∷ [])

-- the values after one of them has become these digits
abbrev pub set_extended : List ℕ → List (List ℕ) → ℕ → List ℕ → List (List ℕ)
set_extended widths values slot digits = set values slot (extended (get_or widths slot 0) digits)
