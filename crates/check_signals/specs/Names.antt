-- The names of signals that a system file gives, or the first fault on the way to them. This project's own.
use Rattle.std.specs.Prelude.{ℕ, ◌&&◌, ◌||◌, not, nat_le, Bool, true, false, List, [], length, map, codes, Option, None, Some, is_none, is_some, option_map, Result, Ok, Err, if◌then◌else◌, ok_or, unwrap_or}
use Rattle.std.specs.List.{list_any}
use Rattle.std.specs.Str.{bytes_eq, is_utf8}
use Rattle.std.specs.Prelude.{Vec}
use Rattle.std.specs.Global.{Global}
use Rattle.toml.specs.Data.{Data, Items, Members, get_member, as_array, as_table}
use Rattle.toml.specs.Parse.{parse_document}
use Rattle.tl_text.specs.Reading.{◌>>=◌, each}
use Rattle.tl_script.specs.Value.{list_of}
use Rattle.check_samples.specs.declared.clock.Edge.{Edge}
use Rattle.check_samples.specs.declared.clock.Edge.TheVariants.{Rising, Falling}
use Rattle.check_samples.specs.declared.signal.Signal.{Signal}
use Rattle.check_signals.specs.Key.{signal_key_name}
use Rattle.check_signals.specs.Prefixes.{Manner, Naming, bare, behind_each, is_no_name, name_behind, prefixes_in, naming_view, said_in, table_of_names}
use Rattle.check_signals.specs.Values.{may_be_left_out, name_unless, optional_flag, optional_table, optional_text, signal_text_of, value_in}
use Rattle.check_signals.specs.declared.fault.SignalKey.{SignalKey}
use Rattle.check_signals.specs.declared.fault.SignalKey.TheVariants.{Port, Master, Clock, Reset, LinkReset, ResetActive, Wires, Bits, Resets, Edge as EdgeKey}
use Rattle.check_signals.specs.declared.fault.KeyFault.{KeyFault}
use Rattle.check_signals.specs.declared.fault.KeyFault.TheVariants.{NotToml, Missing, WrongType, OutOfRange, NoSignals}
use Rattle.check_signals.specs.declared.clocks.ClockNames as code_clock
use Rattle.check_signals.specs.declared.keys.Common as code_common
use Rattle.check_signals.specs.declared.keys.LinkNames as code_link
use Rattle.check_signals.specs.declared.keys.SignalName as code_name
use Rattle.check_signals.specs.declared.keys.SignalNames as code_names
use Rattle.check_signals.specs.declared.keys.SignalName.TheVariants as code_names_of
use Rattle.check_signals.specs.declared.keys.TheConstants.{MAX_PARTS, SIGNALS}

-- ---- the clock and the reset

-- whether a reset is active where it is 0, which may be said otherwise
abbrev pub is_low_by : Bool → Option (List ℕ) → Result Bool KeyFault
is_low_by other None = Ok other
is_low_by other (Some word) =
    if bytes_eq word (codes "high") then Ok false
    else if bytes_eq word (codes "low") then Ok true
    else Err (OutOfRange ResetActive)

-- whether a reset is active at 0, by a table; if it says nothing, it is as this flag says.
abbrev pub is_low_in : Bool → Members → Result Bool KeyFault
is_low_in other members = optional_text ResetActive members >>= is_low_by other

-- the edges of a clock at which beats cross
abbrev pub edge_by : Edge → Option (List ℕ) → Result Edge KeyFault
edge_by other None = Ok other
edge_by other (Some word) =
    if bytes_eq word (codes "rising") then Ok Rising
    else if bytes_eq word (codes "falling") then Ok Falling
    else Err (OutOfRange EdgeKey)

-- the edges of a clock at which beats cross, by a table; if it says nothing, these.
abbrev pub edge_in : Edge → Members → Result Edge KeyFault
edge_in other members = optional_text EdgeKey members >>= edge_by other

-- the names of a clock and of a reset, if a table gives them; the edges of the one, and whether the other is active at 0
pub record ClockNames : Type 0 where
  pub clock : Option (List ℕ)
  pub edge : Edge
  pub reset : Option (List ℕ)
  pub is_low : Bool

-- those of a table whose reset stands at this key. What it does not say of edges and resets is said otherwise
unfoldable pub clock_names_in : SignalKey → Edge → Bool → Members → Result ClockNames KeyFault
clock_names_in key other_edge other_low members = do
  clock ← optional_text Clock members
  reset ← optional_text key members
  is_low ← is_low_in other_low members
  edge ← edge_in other_edge members
  Ok (record { clock = clock; edge = edge; reset = reset; is_low = is_low })

-- those of the file: rising edges, and a reset that is active at 1, if it does not say otherwise
abbrev pub system_clock : Members → Result ClockNames KeyFault
system_clock members = clock_names_in Reset Rising false members

-- those of a link, for which the file says otherwise
abbrev pub link_clock : ClockNames → Members → Result ClockNames KeyFault
link_clock system members = clock_names_in LinkReset system.edge system.is_low members

-- ---- a link

-- the name of a signal: those behind the prefixes, of which the first that is declared is taken; that of its wire; or those of
-- several signals that its wire puts together, which stand one after the other, the highest bits first
pub data SignalName : Type 0 where
  Prefixed : List (List ℕ) → SignalName
  Wired : List ℕ → SignalName
  Joined : List (List ℕ) → SignalName

-- a name, or `-` if the signal may be left out
abbrev pub lone_name : Signal → Data → Result SignalName KeyFault
lone_name which value =
    signal_text_of Wires value >>= (λ text. name_unless Wires (not (may_be_left_out which)) text)
    >>= (λ text. Ok (Wired text))

-- one of several signals, none of which may be left out
abbrev pub part_name : Data → Result (List ℕ) KeyFault
part_name value = signal_text_of Wires value >>= name_unless Wires true

-- the names of the signals that a wire puts together: 1 to 512 texts.
abbrev pub joined_names : List Data → Result SignalName KeyFault
joined_names values =
    if nat_le 1 (length values) && nat_le (length values) MAX_PARTS
    then each part_name values >>= (λ names. Ok (Joined names))
    else Err (OutOfRange Wires)

-- the name of a signal by the value of its wire, which is a text or an array.
abbrev pub wired_by : Signal → Data → Option Items → Result SignalName KeyFault
wired_by which value None = lone_name which value
wired_by which value (Some items) = joined_names (list_of items)

-- the name of a signal by the value of its wire.
abbrev pub wired : Signal → Data → Result SignalName KeyFault
wired which value = wired_by which value (as_array value)

-- the name of a signal without a wire: behind the prefixes what `names` says, or the specification's name; a text of
-- `names` that is no name stands alone.
abbrev pub called : Manner → Signal → Option (List ℕ) → SignalName
called manner which None = Prefixed (behind_each (name_behind manner.naming.bits which) manner.prefixes)
called manner which (Some text) =
    if is_no_name text then Wired text else Prefixed (behind_each text manner.prefixes)

-- the name of a signal by the value of its wire, or if there is none behind the prefixes.
abbrev pub name_by : Manner → Signal → Option Data → Result SignalName KeyFault
name_by manner which None = said_in manner.naming.names which >>= (λ text. Ok (called manner which text))
name_by manner which (Some value) = wired which value

-- the name of a signal, by a table of wires that may be absent.
abbrev pub name_in : Manner → Option Members → Signal → Result SignalName KeyFault
name_in manner wires which = name_by manner which (value_in wires which)

-- the names of all signals of a link, in their order.
abbrev pub names_in : Manner → Option Members → Result (List SignalName) KeyFault
names_in manner wires = each (name_in manner wires) SIGNALS

-- the same of a link that has signals.
abbrev pub some_names_in : Manner → Option Members → Result (Option (List SignalName)) KeyFault
some_names_in manner wires = names_in manner wires >>= (λ names. Ok (Some names))

-- a link without prefixes has names if it has wires
abbrev pub wired_alone : Option Members → Bool → Result (Option (List SignalName)) KeyFault
wired_alone None bits = Ok None
wired_alone (Some wires) bits = some_names_in (bare bits) (Some wires)

-- the names of the signals of a link: if it has prefixes, behind these; if it has wires alone, by these, and `names` says
-- nothing; if it has neither, it has no signals.
abbrev pub link_by : Option (List (List ℕ)) → Option Members → Naming → Result (Option (List SignalName)) KeyFault
link_by None wires naming = wired_alone wires naming.bits
link_by (Some prefixes) wires naming = some_names_in (record { prefixes = prefixes; naming = naming }) wires

-- a link that has signals: the names of its own clock and reset, and of its signals
pub record LinkNames : Type 0 where
  pub clock : ClockNames
  pub signals : List SignalName

-- the names of a link that has signals, with those of its clock and reset.
abbrev pub with_clock : ClockNames → Option (List SignalName) → Option LinkNames
with_clock clock None = None
with_clock clock (Some signals) = Some (record { clock = clock; signals = signals })

-- what the file says of all its links: of their clocks and resets, and how their signals are called
pub record Common : Type 0 where
  pub system : ClockNames
  pub naming : Naming

-- a link has the bundles of the whole file, if it does not say otherwise
unfoldable pub link_in : Common → Members → Result (Option LinkNames) KeyFault
link_in top members = do
  prefixes ← prefixes_in members
  wires ← optional_table Wires members
  bits ← optional_flag Bits members
  clock ← link_clock top.system members
  signals ← link_by prefixes wires (record { bits = unwrap_or bits top.naming.bits; names = top.naming.names })
  Ok (with_clock clock signals)

-- the names of the link whose table this value is.
unfoldable pub link_of : Common → SignalKey → Data → Result (Option LinkNames) KeyFault
link_of top key value = ok_or (as_table value) (WrongType key) >>= link_in top

-- the links of a kind, of which there may be none
abbrev pub links_by : Common → SignalKey → Option Data → Result (List (Option LinkNames)) KeyFault
links_by top key None = Ok []
links_by top key (Some value) =
    ok_or (as_array value) (WrongType key) >>= (λ items. each (link_of top key) (list_of items))

-- the names of the links at a key, in order; each has signals or not.
unfoldable pub links_in : Common → SignalKey → Members → Result (List (Option LinkNames)) KeyFault
links_in top key members = links_by top key (get_member (signal_key_name key) members)

-- ---- a file

-- the names of the system's clock and reset, whether resets of the whole system are told, and the names of each link that has
-- signals
pub record SignalNames : Type 0 where
  pub system : ClockNames
  pub resets : Bool
  pub ports : List (Option LinkNames)
  pub masters : List (Option LinkNames)

-- some link of a kind has signals.
abbrev pub have_signals : List (Option LinkNames) → Bool
have_signals links = list_any (λ link. is_some link) links

-- a link has signals, and no clock of its own.
abbrev pub has_no_clock : Option LinkNames → Bool
has_no_clock None = false
has_no_clock (Some names) = is_none names.clock.clock

-- some link of a kind has signals, and no clock of its own.
abbrev pub need_clock : List (Option LinkNames) → Bool
need_clock links = list_any has_no_clock links

-- some link has to have signals, and then the system a clock, unless each has its own
abbrev pub clock_checked : Bool → Bool → Option (List ℕ) → Result Unit KeyFault
clock_checked false needed clock = Err NoSignals
clock_checked true true None = Err (Missing Clock)
clock_checked true needed clock = Ok tt

-- how the signals of all links are called
abbrev pub naming_in : Members → Result Naming KeyFault
naming_in members = do
  bits ← optional_flag Bits members
  names ← table_of_names members
  Ok (record { bits = unwrap_or bits false; names = names })

-- what the file says of all links
abbrev pub common_in : Members → Result Common KeyFault
common_in members = do
  system ← system_clock members
  naming ← naming_in members
  Ok (record { system = system; naming = naming })

-- whether resets of the whole system are told: they are not, if the file does not say so
abbrev pub resets_in : Members → Result Bool KeyFault
resets_in members = optional_flag Resets members >>= (λ resets. Ok (unwrap_or resets false))

-- first table by table what is wrong in itself, and then what the whole file lacks
unfoldable pub all_names : Members → Result SignalNames KeyFault
all_names members = do
  top ← common_in members
  resets ← resets_in members
  ports ← links_in top Port members
  masters ← links_in top Master members
  _ ← clock_checked (have_signals ports || have_signals masters) (need_clock ports || need_clock masters)
      top.system.clock
  Ok (record { system = top.system; resets = resets; ports = ports; masters = masters })

-- the names of a system file, or its first fault; before all else comes that it is no document.
unfoldable pub names_of_file : List ℕ → Result SignalNames KeyFault
names_of_file bytes =
    if is_utf8 bytes then ok_or (parse_document bytes) NotToml >>= all_names else Err NotToml

-- ---- what calls answer

-- what contracts see of the name of a signal.
abbrev pub name_view : code_name.SignalName → SignalName
name_view (code_names_of.Prefixed texts) = Prefixed (map (λ text. text.items) texts.items)
name_view (code_names_of.Wired text) = Wired text.items
name_view (code_names_of.Joined texts) = Joined (map (λ text. text.items) texts.items)

-- the names of signals, if there are any
abbrev pub signals_view : Option (Vec code_name.SignalName Global) → Option (List SignalName)
signals_view signals = option_map (λ names. map name_view names.items) signals

-- what contracts see of the names of a clock and a reset.
abbrev pub clock_view : code_clock.ClockNames → ClockNames
clock_view names = record {
  clock = option_map (λ name. name.items) names.clock;
  edge = names.edge;
  reset = option_map (λ name. name.items) names.reset;
  is_low = names.is_low;
}

-- what contracts see of the names of a link.
abbrev pub link_names_view : code_link.LinkNames → LinkNames
link_names_view names = record { clock = clock_view names.clock; signals = map name_view names.signals.items }

-- the same of a link that may have no signals.
abbrev pub link_view : Option code_link.LinkNames → Option LinkNames
link_view link = option_map link_names_view link

-- what contracts see of what the file says of all links.
abbrev pub common_view : code_common.Common → Common
common_view top = record { system = clock_view top.system.now; naming = naming_view top.naming }

-- what contracts see of the names of a file.
abbrev pub names_view : code_names.SignalNames → SignalNames
names_view names = record {
  system = clock_view names.system;
  resets = names.resets;
  ports = map link_view names.ports.items;
  masters = map link_view names.masters.items;
}
