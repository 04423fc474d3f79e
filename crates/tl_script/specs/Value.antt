-- What stands at the keys of a table of a script: of its type, and in its range. This project's own.
use Rattle.std.specs.Prelude.{ℕ, ◌&&◌, ℤ, pos, negsuc, nat_le, List, [], ◌∷◌, length, Result, Ok, Err, if◌then◌else◌, ok_or}
use Rattle.toml.specs.Data.{Data, Items, no_items, item, Members, get_member, as_integer, as_str, as_table, as_array}
use Rattle.tl_script.specs.Key.{script_key_name}
use Rattle.tl_text.specs.Reading.{◌>>=◌, each}
use Rattle.tl_script.specs.declared.fault.ScriptKey.{ScriptKey}
use Rattle.tl_script.specs.declared.fault.ScriptFault.{ScriptFault}
use Rattle.tl_script.specs.declared.fault.ScriptFault.TheVariants.{Missing, WrongType, OutOfRange}

-- the value at a key that has to be there
unfoldable pub script_value_at : ScriptKey → Members → Result Data ScriptFault
script_value_at key members = ok_or (get_member (script_key_name key) members) (Missing key)

-- the number, if it is from low to high
abbrev pub script_in_range : ScriptKey → ℕ → ℕ → ℤ → Result ℕ ScriptFault
script_in_range key low high (pos n) = if nat_le low n && nat_le n high then Ok n else Err (OutOfRange key)
script_in_range key low high (negsuc n) = Err (OutOfRange key)

-- the number at a key, from low to high
unfoldable pub script_number_at : ScriptKey → ℕ → ℕ → Members → Result ℕ ScriptFault
script_number_at key low high members = do
  value ← script_value_at key members
  number ← ok_or (as_integer value) (WrongType key)
  script_in_range key low high number

-- the text of a value
abbrev pub script_text_of : ScriptKey → Data → Result (List ℕ) ScriptFault
script_text_of key value = ok_or (as_str value) (WrongType key)

-- the values of an array
abbrev pub list_of : Items → List Data
list_of no_items = []
list_of (item value items) = value ∷ list_of items

-- the values of the array that stands at a key; a value that is no array has the wrong type.
unfoldable pub list_at : ScriptKey → Data → Result (List Data) ScriptFault
list_at key value = ok_or (as_array value) (WrongType key) >>= (λ items. Ok (list_of items))

-- the members of a value that is a table
abbrev pub script_table_of : ScriptKey → Data → Result Members ScriptFault
script_table_of key value = ok_or (as_table value) (WrongType key)

-- the tables of an array of tables
abbrev pub script_tables_of : ScriptKey → Data → Result (List Members) ScriptFault
script_tables_of key value = list_at key value >>= each (script_table_of key)

-- the values, if they are not too many
abbrev pub up_to_in_script : {A : Type 0} → ScriptKey → ℕ → List A → Result (List A) ScriptFault
up_to_in_script key most xs = if nat_le (length xs) most then Ok xs else Err (OutOfRange key)

-- the values, if there are any
abbrev pub some_of : {A : Type 0} → ScriptKey → List A → Result (List A) ScriptFault
some_of key [] = Err (OutOfRange key)
some_of key (x ∷ xs) = Ok (x ∷ xs)
