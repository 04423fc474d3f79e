-- The bytes of a port that change by themselves, as offsets in its first range. This project's own.
use Rattle.std.specs.Prelude.{◌+◌, ◌-◌, ℤ, List, [], Option, None, Some, Result, Ok}
use Rattle.toml.specs.Data.{Data, Members, get_member}
use Rattle.tl_map.specs.declared.range.Range.{Range}
use Rattle.tl_text.specs.Reading.{◌>>=◌, each}
use Rattle.check_keys.specs.Key.{key_name}
use Rattle.check_keys.specs.Value.{in_range, array_of, pair_in_value, one_up_to}
use Rattle.check_keys.specs.declared.fault.Key.TheVariants.{Volatile}
use Rattle.check_keys.specs.declared.fault.SystemFault.{SystemFault}
use Rattle.check_description.specs.Ranges.{first_base, first_length}
use Rattle.check_description.specs.declared.volatile.TheConstants.{MAX_VOLATILE}

-- the addresses of an offset and a length in a range
unfoldable pub volatile_of_pair : Range → ℤ × ℤ → Result Range SystemFault
volatile_of_pair first pair = do
  offset ← in_range Volatile 0 first.length pair.0
  length ← in_range Volatile 1 (first.length - offset) pair.1
  Ok (record { base = first.base + offset; length = length })

-- those that a value lists
unfoldable pub volatile_in : Range → Data → Result (List Range) SystemFault
volatile_in first value = do
  values ← array_of Volatile value
  pairs ← each (pair_in_value Volatile) values
  some ← one_up_to Volatile MAX_VOLATILE pairs
  each (volatile_of_pair first) some

-- the same, or none
abbrev pub volatile_by : Range → Option Data → Result (List Range) SystemFault
volatile_by first None = Ok []
volatile_by first (Some value) = volatile_in first value

-- those of a port with these ranges
unfoldable pub volatile_at : List Range → Members → Result (List Range) SystemFault
volatile_at ranges members =
    volatile_by (record { base = first_base ranges; length = first_length ranges })
    (get_member (key_name Volatile) members)
