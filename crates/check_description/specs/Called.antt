-- Which port or master is said by a number or by a name. This project's own.
use Rattle.std.specs.Prelude.{ℕ, ◌+◌, nat_lt, Bool, false, ℤ, pos, negsuc, List, [], ◌∷◌, length, Option, None, Some, if◌then◌else◌}
use Rattle.std.specs.Str.{bytes_eq}
use Rattle.check_keys.specs.Value.{IntegerOrText}
use Rattle.check_keys.specs.Value.IntegerOrText.{Number, Text}

-- one has this name
abbrev pub is_called : List ℕ → Option (List ℕ) → Bool
is_called name None = false
is_called name (Some own) = bytes_eq own name

-- the first of this name, of those that are numbered from a number on
abbrev pub called_from : ℕ → List ℕ → List (Option (List ℕ)) → Option ℕ
called_from number name [] = None
called_from number name (own ∷ names) = if is_called name own then Some number else called_from (number + 1) name names

-- the one of this number, if there are more than that
abbrev pub one_numbered : ℕ → ℤ → Option ℕ
one_numbered count (pos n) = if nat_lt n count then Some n else None
one_numbered count (negsuc n) = None

-- the one that an element says by its number or by its name, of those with these names; a text is a name and no number
abbrev pub said_by : List (Option (List ℕ)) → IntegerOrText → Option ℕ
said_by names (Number n) = one_numbered (length names) n
said_by names (Text name) = called_from 0 name names
