-- The names of ports and masters. This project's own.
use Rattle.std.specs.Prelude.{ℕ, Bool, false, ◌&&◌, ◌||◌, not, ◌==◌, nat_le, List, [], ◌∷◌, length, Option, Result}
use Rattle.std.specs.Char.{is_ascii_alphanumeric, is_ascii_digit}
use Rattle.std.specs.List.{list_all}
use Rattle.toml.specs.Data.{Members}
use Rattle.tl_text.specs.Reading.{◌>>=◌, if_any, unless}
use Rattle.check_keys.specs.Value.{text_if_any}
use Rattle.check_keys.specs.declared.fault.Key.TheVariants.{Name}
use Rattle.check_keys.specs.declared.fault.SystemFault.{SystemFault}
use Rattle.check_keys.specs.declared.fault.SystemFault.TheVariants.{OutOfRange}
use Rattle.check_keys.specs.declared.name.TheConstants.{MAX_NAME}

-- a letter, a digit, `_`, `.` or `-`
abbrev pub is_name_byte : ℕ → Bool
is_name_byte byte = is_ascii_alphanumeric byte || (byte == 95) || (byte == 46) || (byte == 45)

-- `m` or `p` with digits alone after it, as captures and traces number the links
abbrev pub is_number_of_link : List ℕ → Bool
is_number_of_link [] = false
is_number_of_link (first ∷ []) = false
is_number_of_link (first ∷ digit ∷ digits) =
    ((first == 109) || (first == 112)) && list_all is_ascii_digit (digit ∷ digits)

-- the text may be a name. A name has 1 to 32 letters, digits, `_`, `.` or `-`, and is not `m` or `p` with digits alone.
abbrev pub is_name : List ℕ → Bool
is_name text =
    nat_le 1 (length text) && nat_le (length text) MAX_NAME && list_all is_name_byte text
    && not (is_number_of_link text)

-- the name that a text is
abbrev pub name_of_text : List ℕ → Result (List ℕ) SystemFault
name_of_text text = unless (not (is_name text)) (OutOfRange Name) text

-- the name of a port or master, which may have none
unfoldable pub name_at : Members → Result (Option (List ℕ)) SystemFault
name_at members = text_if_any Name members >>= if_any name_of_text
