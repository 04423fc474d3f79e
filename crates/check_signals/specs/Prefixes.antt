-- The prefixes of a link's names, and what stands behind them. This project's own; the names of a link's signals are the TileLink
-- specification's.
use Rattle.std.specs.Prelude.{ℕ, ◌++◌, ◌&&◌, ◌||◌, not, nat_le, Bool, true, false, List, [], ◌∷◌, length, map, codes, Option, None, Some, option_map, Result, Ok, Err, if◌then◌else◌, unwrap_or}
use Rattle.std.specs.List.{list_any}
use Rattle.std.specs.Str.{bytes_eq}
use Rattle.toml.specs.Data.{Data, Items, Members, get_member, as_array}
use Rattle.toml.specs.View.{table_view}
use Rattle.tl_text.specs.Reading.{◌>>=◌, each, if_any}
use Rattle.tl_script.specs.Value.{list_of}
use Rattle.check_vcd.specs.Header.{Var}
use Rattle.check_samples.specs.Signal.{signal_name}
use Rattle.check_samples.specs.declared.signal.Signal.{Signal}
use Rattle.check_samples.specs.declared.signal.Signal.TheVariants as signal
use Rattle.check_signals.specs.Key.{signal_key_name}
use Rattle.check_signals.specs.Values.{may_be_left_out, name_unless, optional_table, signal_text_of, value_in}
use Rattle.check_signals.specs.Wires.{first_of, sought}
use Rattle.check_signals.specs.declared.fault.SignalKey.TheVariants.{Signals, Names}
use Rattle.check_signals.specs.declared.fault.KeyFault.{KeyFault}
use Rattle.check_signals.specs.declared.fault.KeyFault.TheVariants.{OutOfRange}
use Rattle.check_signals.specs.declared.keys.TheConstants.{SIGNALS}
use Rattle.check_signals.specs.declared.prefixes.Manner as code_manner
use Rattle.check_signals.specs.declared.prefixes.Naming as code_naming
use Rattle.check_signals.specs.declared.prefixes.TheConstants.{MAX_PREFIXES}

-- ---- the prefixes

-- several, as many as are allowed
abbrev pub several_prefixes : List Data → Result (List (List ℕ)) KeyFault
several_prefixes values =
    if nat_le 1 (length values) && nat_le (length values) MAX_PREFIXES then each (signal_text_of Signals) values
    else Err (OutOfRange Signals)

-- the one prefix that a text is.
abbrev pub lone_prefix : Data → Result (List (List ℕ)) KeyFault
lone_prefix value = signal_text_of Signals value >>= (λ prefix. Ok (prefix ∷ []))

-- those of an array, or the one that a value is
abbrev pub prefixes_by : Data → Option Items → Result (List (List ℕ)) KeyFault
prefixes_by value None = lone_prefix value
prefixes_by value (Some items) = several_prefixes (list_of items)

-- the prefixes that a value gives: a text is one, and an array lists several.
abbrev pub prefixes_of : Data → Result (List (List ℕ)) KeyFault
prefixes_of value = prefixes_by value (as_array value)

-- those of a link, if it has any
abbrev pub prefixes_in : Members → Result (Option (List (List ℕ))) KeyFault
prefixes_in members = if_any prefixes_of (get_member (signal_key_name Signals) members)

-- ---- what stands behind a prefix

-- what `names` says of a signal: what stands behind the prefix; or `0`, `1` or `-`, as a wire does
abbrev pub said_of : Signal → Data → Result (List ℕ) KeyFault
said_of which value = signal_text_of Names value >>= name_unless Names (not (may_be_left_out which))

-- what the table `names` says of a signal; none if there is no table, or if it says nothing of the signal.
abbrev pub said_in : Option Members → Signal → Result (Option (List ℕ)) KeyFault
said_in names which = if_any (said_of which) (value_in names which)

-- the table, if it says nothing wrong of these signals; or the first fault
abbrev pub names_checked : Option Members → List Signal → Result (Option Members) KeyFault
names_checked names [] = Ok names
names_checked names (which ∷ signals) = said_in names which >>= (λ text. names_checked names signals)

-- the table `names`, if there is one and each text in it is one that may stand there; or its first fault.
abbrev pub table_of_names : Members → Result (Option Members) KeyFault
table_of_names members = optional_table Names members >>= (λ names. names_checked names SIGNALS)

-- the signals of a handshake: valid and ready
abbrev pub is_handshake : Signal → Bool
is_handshake signal.AValid = true
is_handshake signal.AReady = true
is_handshake signal.DValid = true
is_handshake signal.DReady = true
is_handshake which = false

-- the channel and its underscore, then `bits_`, and then the field
abbrev pub with_bits : List ℕ → List ℕ
with_bits (channel ∷ line ∷ field) = channel ∷ line ∷ (codes "bits_" ++ field)
with_bits name = name

-- the specification's name, in the bundle or outside of it
abbrev pub name_behind : Bool → Signal → List ℕ
name_behind bits which =
    if bits && not (is_handshake which) then with_bits (signal_name which) else signal_name which

-- a text that is no name: a constant, or that there is no such signal
abbrev pub is_no_name : List ℕ → Bool
is_no_name text = bytes_eq text (codes "0") || bytes_eq text (codes "1") || bytes_eq text (codes "-")

-- how signals are called: whether those that are no handshake stand in a bundle `bits` of their channel, and the table that says
-- otherwise of some
pub record Naming : Type 0 where
  pub bits : Bool
  pub names : Option Members

-- the same behind these prefixes
pub record Manner : Type 0 where
  pub prefixes : List (List ℕ)
  pub naming : Naming

-- a link without prefixes has the names alone, and `names` says nothing of it
abbrev pub bare : Bool → Manner
bare bits = record { prefixes = [] ∷ []; naming = record { bits = bits; names = None } }

-- a text behind each prefix
abbrev pub behind_each : List ℕ → List (List ℕ) → List (List ℕ)
behind_each text prefixes = map (λ prefix. prefix ++ text) prefixes

-- ---- the prefix that is taken

-- a signal has this name
abbrev pub has_name : List Var → List ℕ → Bool
has_name vars name = list_any (λ var. bytes_eq var.name name) vars

-- a signal of this name is declared; of a name that ends in a range, one of the name before it
unfoldable pub is_declared : List Var → List ℕ → Bool
is_declared vars name = has_name vars (sought vars name).0

-- the first of these names that is declared
abbrev pub first_declared : List Var → List (List ℕ) → Option (List ℕ)
first_declared vars [] = None
first_declared vars (name ∷ names) = if is_declared vars name then Some name else first_declared vars names

-- or else the first
abbrev pub taken : List Var → List (List ℕ) → List ℕ
taken vars names = unwrap_or (first_declared vars names) (unwrap_or (first_of names) [])

-- ---- what calls answer

-- what contracts see of how signals are called.
abbrev pub naming_view : code_naming.Naming → Naming
naming_view naming = record { bits = naming.bits; names = option_map (λ names. table_view names.now) naming.names }

-- what contracts see of how signals are called behind prefixes.
abbrev pub manner_view : code_manner.Manner → Manner
manner_view manner = record {
  prefixes = map (λ prefix. prefix.now) manner.prefixes.now;
  naming = naming_view manner.naming;
}
