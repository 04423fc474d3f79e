-- The ranges of a port: its base and its length, or a list of both. This project's own.
use Rattle.std.specs.Prelude.{ℕ, ◌<◌, ◌≤◌, Bool, ◌||◌, ℤ, List, [], ◌∷◌, length, All, Option, None, Some, is_some, Result, Ok}
use Rattle.toml.specs.Data.{Data, Members, get_member}
use Rattle.tl_map.specs.declared.range.Range.{Range}
use Rattle.tl_map.specs.Map.{IsLawfulRange}
use Rattle.tl_map.specs.declared.limits.TheConstants.{MAX_RANGES_OF_PORT}
use Rattle.check_keys.specs.Key.{key_name}
use Rattle.tl_text.specs.Reading.{◌>>=◌, each, unless}
use Rattle.check_keys.specs.Value.{number_at, number_if_any, in_range, last_integer, array_of, pair_in_value, one_up_to}
use Rattle.check_keys.specs.declared.fault.Key.TheVariants.{Base, Length, Ranges}
use Rattle.check_keys.specs.declared.fault.SystemFault.{SystemFault}
use Rattle.check_keys.specs.declared.fault.SystemFault.TheVariants.{OutOfRange}

-- ---- which ranges a port may have

-- there are some and not too many, and each has a byte, and none past the last address
pub record AreRangesOfPort (ranges : List Range) : Type 0 where
  pub some : 0 < length ranges
  pub few : length ranges ≤ MAX_RANGES_OF_PORT
  pub each : All IsLawfulRange ranges

-- the address of the first byte of the first range; 0 if there is none.
abbrev pub first_base : List Range → ℕ
first_base [] = 0
first_base (range ∷ ranges) = range.base

-- how many bytes the first range has; 0 if there is none.
abbrev pub first_length : List Range → ℕ
first_length [] = 0
first_length (range ∷ ranges) = range.length

-- ---- how they are read

-- one range, of the base and the length
unfoldable pub plain_ranges : Members → Result (List Range) SystemFault
plain_ranges members = do
  base ← number_at Base 0 last_integer members
  length ← number_at Length 1 last_integer members
  Ok (record { base = base; length = length } ∷ [])

-- the range of this base and this length
unfoldable pub range_of_pair : ℤ × ℤ → Result Range SystemFault
range_of_pair pair = do
  base ← in_range Ranges 0 last_integer pair.0
  length ← in_range Ranges 1 last_integer pair.1
  Ok (record { base = base; length = length })

-- the ranges that a value lists, if no base and no length stands beside them
unfoldable pub ranges_in : Bool → Data → Result (List Range) SystemFault
ranges_in beside value = do
  values ← array_of Ranges value
  pairs ← each (pair_in_value Ranges) values
  alone ← unless beside (OutOfRange Ranges) pairs
  some ← one_up_to Ranges MAX_RANGES_OF_PORT alone
  each range_of_pair some

-- the same, with the base and the length looked at before
unfoldable pub listed_ranges : Members → Data → Result (List Range) SystemFault
listed_ranges members value = do
  base ← number_if_any Base 0 last_integer members
  length ← number_if_any Length 1 last_integer members
  ranges_in (is_some base || is_some length) value

-- a base and a length, or a list of ranges
abbrev pub ranges_by : Members → Option Data → Result (List Range) SystemFault
ranges_by members None = plain_ranges members
ranges_by members (Some value) = listed_ranges members value

-- the ranges of a port, by its table.
unfoldable pub ranges_at : Members → Result (List Range) SystemFault
ranges_at members = ranges_by members (get_member (key_name Ranges) members)
