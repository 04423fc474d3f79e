-- What stands at the keys of a system file that say where signals are. This project's own.
use Rattle.std.specs.Prelude.{◌≡◌, ◌≢◌, ℕ, ◌&&◌, Bool, true, false, List, codes, Option, None, Some, MatchResult, Result, Ok, Err, if◌then◌else◌, ok_or}
use Rattle.std.specs.Str.{bytes_eq}
use Rattle.toml.specs.Data.{Data, Members, get_member, as_bool, as_str, as_table}
use Rattle.tl_text.specs.Reading.{if_any}
use Rattle.check_samples.specs.Signal.{signal_name}
use Rattle.check_samples.specs.declared.signal.Signal.{Signal}
use Rattle.check_samples.specs.declared.signal.Signal.TheVariants as signal
use Rattle.check_signals.specs.Key.{signal_key_name}
use Rattle.check_signals.specs.declared.fault.SignalKey.{SignalKey}
use Rattle.check_signals.specs.declared.fault.KeyFault.{KeyFault}
use Rattle.check_signals.specs.declared.fault.KeyFault.TheVariants.{WrongType, OutOfRange, Memory}

-- the text that the value at this key is; a value of another type has the wrong type of the key.
abbrev pub signal_text_of : SignalKey → Data → Result (List ℕ) KeyFault
signal_text_of key value = ok_or (as_str value) (WrongType key)

-- the text at a key that may be absent.
abbrev pub optional_text : SignalKey → Members → Result (Option (List ℕ)) KeyFault
optional_text key members = if_any (signal_text_of key) (get_member (signal_key_name key) members)

-- a flag that may be absent
abbrev pub optional_flag : SignalKey → Members → Result (Option Bool) KeyFault
optional_flag key members =
    if_any (λ value. ok_or (as_bool value) (WrongType key)) (get_member (signal_key_name key) members)

-- a table that may be absent
abbrev pub optional_table : SignalKey → Members → Result (Option Members) KeyFault
optional_table key members =
    if_any (λ value. ok_or (as_table value) (WrongType key)) (get_member (signal_key_name key) members)

-- the value at the key of a signal, in a table that may be absent
abbrev pub value_in : Option Members → Signal → Option Data
value_in None which = None
value_in (Some table) which = get_member (signal_name which) table

-- a design may have no such signal, which `-` says
abbrev pub may_be_left_out : Signal → Bool
may_be_left_out signal.ACorrupt = true
may_be_left_out signal.DParam = true
may_be_left_out signal.DCorrupt = true
may_be_left_out which = false

-- a name, or `-` if that is not refused
abbrev pub name_unless : SignalKey → Bool → List ℕ → Result (List ℕ) KeyFault
name_unless key refused text = if refused && bytes_eq text (codes "-") then Err (OutOfRange key) else Ok text

-- ---- what calls answer

-- a call answers what the definition gives, unless memory runs out
abbrev pub GivesNames : {X Y : Type 0} → (X → Y) → Result X KeyFault → Result Y KeyFault → Type 0
GivesNames view result read = MatchResult result (λ x. read ≡ Ok (view x)) (λ e. e ≢ Memory → read ≡ Err e)
