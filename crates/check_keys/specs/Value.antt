-- What stands at the keys of a table of a system file: of its type, and in its range. This project's own.
use Rattle.std.specs.Prelude.{ℕ, Bool, false, ◌-◌, ◌^◌, ◌&&◌, ℤ, pos, negsuc, nat_le, nat_lt, List, [], ◌∷◌, length, Option, None, Some, unwrap_or, Result, Ok, Err, if◌then◌else◌, ok_or}
use Rattle.toml.specs.Data.{Data, Members, get_member, as_integer, as_bool, as_str, as_table, as_array}
use Rattle.tl_script.specs.Port.{pairs_of}
use Rattle.tl_script.specs.Value.{list_of}
use Rattle.check_keys.specs.Key.{key_name}
use Rattle.tl_text.specs.Reading.{◌>>=◌, each, if_any, unless}
use Rattle.check_keys.specs.declared.value.IntegerOrText as code_value
use Rattle.check_keys.specs.declared.value.IntegerOrText.TheVariants as code_values
use Rattle.check_keys.specs.declared.fault.Key.{Key}
use Rattle.check_keys.specs.declared.fault.SystemFault.{SystemFault}
use Rattle.check_keys.specs.declared.fault.SystemFault.TheVariants.{Missing, WrongType, OutOfRange}

-- the value at a key that has to be there
unfoldable pub value_at : Key → Members → Result Data SystemFault
value_at key members = ok_or (get_member (key_name key) members) (Missing key)

-- ---- numbers and booleans

-- the largest integer of a document
abbrev pub last_integer : ℕ
last_integer = 2 ^ 63 - 1

-- the integer that a value is
abbrev pub integer_of : Key → Data → Result ℤ SystemFault
integer_of key value = ok_or (as_integer value) (WrongType key)

-- the number, if it is from low to high
abbrev pub in_range : Key → ℕ → ℕ → ℤ → Result ℕ SystemFault
in_range key low high (pos n) = if nat_le low n && nat_le n high then Ok n else Err (OutOfRange key)
in_range key low high (negsuc n) = Err (OutOfRange key)

-- the number that a value is, from low to high
unfoldable pub number_in_value : Key → ℕ → ℕ → Data → Result ℕ SystemFault
number_in_value key low high value = integer_of key value >>= in_range key low high

-- the number at a key that has to be there, from low to high.
unfoldable pub number_at : Key → ℕ → ℕ → Members → Result ℕ SystemFault
number_at key low high members = value_at key members >>= number_in_value key low high

-- the number at a key, from low to high; none if the key is absent.
unfoldable pub number_if_any : Key → ℕ → ℕ → Members → Result (Option ℕ) SystemFault
number_if_any key low high members = if_any (number_in_value key low high) (get_member (key_name key) members)

-- the boolean that a value is
abbrev pub flag_of : Key → Data → Result Bool SystemFault
flag_of key value = ok_or (as_bool value) (WrongType key)

-- the boolean at a key, which is false if it is absent
unfoldable pub flag_at : Key → Members → Result Bool SystemFault
flag_at key members = if_any (flag_of key) (get_member (key_name key) members) >>= (λ flag. Ok (unwrap_or flag false))

-- ---- texts

-- the text of a value
abbrev pub text_of : Key → Data → Result (List ℕ) SystemFault
text_of key value = ok_or (as_str value) (WrongType key)

-- the text at a key that may be absent
unfoldable pub text_if_any : Key → Members → Result (Option (List ℕ)) SystemFault
text_if_any key members = if_any (text_of key) (get_member (key_name key) members)

-- the bytes that pairs of hexadecimal digits spell
abbrev pub bytes_of : Key → List ℕ → Result (List ℕ) SystemFault
bytes_of key text = ok_or (pairs_of text) (OutOfRange key)

-- ---- integers or texts

-- a value that is an integer, or a text
pub data IntegerOrText : Type 0 where
  Number : ℤ → IntegerOrText
  Text : List ℕ → IntegerOrText

-- the text of a value that is no integer, or the integer
abbrev pub integer_or_text_by : Option ℤ → Option (List ℕ) → Option IntegerOrText
integer_or_text_by (Some n) text = Some (Number n)
integer_or_text_by None (Some text) = Some (Text text)
integer_or_text_by None None = None

-- the integer or the text that a value is; a value of another type has the wrong type of the key.
abbrev pub integer_or_text_of : Key → Data → Result IntegerOrText SystemFault
integer_or_text_of key value = ok_or (integer_or_text_by (as_integer value) (as_str value)) (WrongType key)

-- what contracts see of such a value
abbrev pub integer_or_text_view : code_value.IntegerOrText → IntegerOrText
integer_or_text_view (code_values.Number n) = Number n
integer_or_text_view (code_values.Text text) = Text text.now

-- ---- arrays and tables

-- the values of an array
unfoldable pub array_of : Key → Data → Result (List Data) SystemFault
array_of key value = ok_or (as_array value) (WrongType key) >>= (λ items. Ok (list_of items))

-- the integers that two values are
abbrev pub two_of : Key → List Data → Result (ℤ × ℤ) SystemFault
two_of key (first ∷ second ∷ []) = do
  one ← integer_of key first
  other ← integer_of key second
  Ok (one, other)
two_of key _ = Err (WrongType key)

-- the two integers of which a value is an array
unfoldable pub pair_in_value : Key → Data → Result (ℤ × ℤ) SystemFault
pair_in_value key value = array_of key value >>= two_of key

-- the members of a value that is a table
abbrev pub table_of : Key → Data → Result Members SystemFault
table_of key value = ok_or (as_table value) (WrongType key)

-- the tables of an array of tables
abbrev pub tables_of : Key → Data → Result (List Members) SystemFault
tables_of key value = array_of key value >>= each (table_of key)

-- the values, if they are not too many
abbrev pub up_to : {A : Type 0} → Key → ℕ → List A → Result (List A) SystemFault
up_to key most xs = unless (nat_lt most (length xs)) (OutOfRange key) xs

-- the values, if there are some and not too many
abbrev pub one_up_to : {A : Type 0} → Key → ℕ → List A → Result (List A) SystemFault
one_up_to key most xs = unless (nat_lt (length xs) 1) (OutOfRange key) xs >>= up_to key most
