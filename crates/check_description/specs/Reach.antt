-- The ports to which a master has a path, as a file says them. This project's own.
use Rattle.std.specs.Prelude.{ℕ, ◌==◌, Bool, not, List, length, map, filter, Option, Result, ok_or}
use Rattle.std.specs.List.{list_any, range_with_len}
use Rattle.toml.specs.Data.{Data, Members, get_member}
use Rattle.tl_map.specs.declared.limits.TheConstants.{MAX_JUDGED_PORTS}
use Rattle.tl_text.specs.Reading.{◌>>=◌, each, if_any, unless}
use Rattle.check_keys.specs.Key.{key_name}
use Rattle.check_keys.specs.Value.{IntegerOrText, array_of, integer_or_text_of, up_to}
use Rattle.check_keys.specs.declared.fault.Key.TheVariants.{Reach}
use Rattle.check_keys.specs.declared.fault.SystemFault.{SystemFault}
use Rattle.check_keys.specs.declared.fault.SystemFault.TheVariants.{OutOfRange}
use Rattle.check_description.specs.Called.{said_by}

-- the port that an element says
abbrev pub port_of_element : List (Option (List ℕ)) → IntegerOrText → Result ℕ SystemFault
port_of_element names element = ok_or (said_by names element) (OutOfRange Reach)

-- ---- the ports of a master

-- for each of so many ports, whether its number is among these
abbrev pub flags_of : ℕ → List ℕ → List Bool
flags_of count numbers = map (λ port. list_any (λ n. n == port) numbers) (range_with_len 0 count)

-- how many are set
abbrev pub count_set : List Bool → ℕ
count_set flags = length (filter (λ flag. flag) flags)

-- each of these numbers below a count is another one: then as many flags are set as there are numbers
abbrev pub are_distinct : ℕ → List ℕ → Bool
are_distinct count numbers = count_set (flags_of count numbers) == length numbers

-- the flags of the ports that these elements say, each of them another one
abbrev pub flags_in : List (Option (List ℕ)) → List IntegerOrText → Result (List Bool) SystemFault
flags_in names elements = do
  numbers ← each (port_of_element names) elements
  unless (not (are_distinct (length names) numbers)) (OutOfRange Reach) (flags_of (length names) numbers)

-- the flags of the ports that a value lists: all elements are integers or texts, and not too many
unfoldable pub reach_in : List (Option (List ℕ)) → Data → Result (List Bool) SystemFault
reach_in names value = do
  values ← array_of Reach value
  elements ← each (integer_or_text_of Reach) values
  few ← up_to Reach MAX_JUDGED_PORTS elements
  flags_in names few

-- those of a master's table; a table that says nothing gives none
unfoldable pub reach_at : List (Option (List ℕ)) → Members → Result (Option (List Bool)) SystemFault
reach_at names members = if_any (reach_in names) (get_member (key_name Reach) members)
