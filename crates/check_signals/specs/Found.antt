-- Which signals of a dump are looked at, and what is kept of it. This project's own; the order of the channels within one
-- time is that of captures.
use Rattle.std.specs.Prelude.{◌≡◌, ℕ, ◌+◌, ◌==◌, ◌&&◌, Bool, true, false, not, List, [], ◌∷◌, ◌++◌, filter, length, map, replicate, Option, None, Some, option_and_then, option_map, Result, Ok, Err, if◌then◌else◌, slice_get, unwrap_or, Vec}
use Rattle.std.specs.Global.{Global}
use Rattle.std.specs.List.{cons_option, flat_map, list_any, zip}
use Rattle.std.specs.Str.{bytes_eq}
use Rattle.tl_text.specs.Reading.{◌>>=◌, each, if_any}
use Rattle.check_beats.specs.Bus.{bus_bytes}
use Rattle.check_beats.specs.declared.bus.Bus.{Bus}
use Rattle.check_watch.specs.declared.beat.Link.{Link}
use Rattle.check_watch.specs.declared.beat.Link.TheVariants as link
use Rattle.check_vcd.specs.Body.{Find}
use Rattle.check_vcd.specs.Codes.{coded_in}
use Rattle.check_vcd.specs.Dump.{with_slot}
use Rattle.check_vcd.specs.Header.{Var}
use Rattle.check_samples.specs.Digits.{unknown}
use Rattle.check_samples.specs.Domain.{Domain}
use Rattle.check_samples.specs.Rows.{Probes, view_of}
use Rattle.check_samples.specs.Sampling.{Sampling, sampling_by}
use Rattle.check_samples.specs.Values.{all_before, all_now, all_widths}
use Rattle.check_samples.specs.declared.channel.BeatTaps.TheVariants.{A, D}
use Rattle.check_samples.specs.declared.channel.Channel.{Channel}
use Rattle.check_samples.specs.declared.clock.Edge.{Edge}
use Rattle.check_samples.specs.declared.clock.Edge.TheVariants.{Rising, Falling}
use Rattle.check_samples.specs.declared.reset.Reset.{Reset}
use Rattle.check_samples.specs.declared.reset.SystemReset.{SystemReset}
use Rattle.check_samples.specs.declared.signal.Signal.{Signal}
use Rattle.check_samples.specs.declared.tap.Tap.{Tap}
use Rattle.check_signals.specs.Names.{ClockNames, LinkNames, SignalName, SignalNames, clock_view}
use Rattle.check_signals.specs.Nets.{named_in, one_of}
use Rattle.check_signals.specs.Parts.{all_parts, signal_parts, signals_view}
use Rattle.check_signals.specs.Source.{SearchFault, Kept, Changing, Constant, Source, WantedSignal, left_out, parts_bits, source_view}
use Rattle.check_signals.specs.Wanted.{wanted_of}
use Rattle.check_signals.specs.declared.keys.TheConstants.{SIGNALS}
use Rattle.check_signals.specs.declared.domains.ClockSources as code_domains
use Rattle.check_signals.specs.declared.links.LinkSources as code_links
use Rattle.check_signals.specs.declared.parts.LinkSignal.{LinkSignal}
use Rattle.check_signals.specs.declared.resolve.Resolved as code_resolved
use Rattle.check_signals.specs.declared.resolve.Sources as code_sources
use Rattle.check_signals.specs.declared.signal_fault.SignalOwner.{SignalOwner}
use Rattle.check_signals.specs.declared.signal_fault.SignalOwner.TheVariants as owner
use Rattle.check_signals.specs.declared.wanted.Wanted.TheVariants.{AtMost}

-- ---- what the names find

-- what is looked for by the name of a clock or a reset: one bit.
abbrev pub line_asked : SignalOwner → List ℕ → WantedSignal
line_asked whose name = record { owner = whose; name = name; behind = None; wanted = AtMost 1 }

-- what the name of a clock or a reset finds, which is one part.
abbrev pub line_source : List Var → SignalOwner → List ℕ → Result Source SearchFault
line_source vars whose name = named_in vars (line_asked whose name) >>= one_of (line_asked whose name)

-- the names of a clock and of a reset, and what they find
pub record ClockSources : Type 0 where
  pub names : ClockNames
  pub clock : Option Source
  pub reset : Option Source

-- what the names of a clock and a reset find, the clock's first; of a name that there is not, nothing.
unfoldable pub clock_sources : List Var → SignalOwner → ClockNames → Result ClockSources SearchFault
clock_sources vars whose names = do
  clock ← if_any (line_source vars whose) names.clock
  reset ← if_any (line_source vars whose) names.reset
  Ok (record { names = names; clock = clock; reset = reset })

-- a signal of a link whose bus has so many bytes.
abbrev pub signal_by : SignalOwner → ℕ → Signal → LinkSignal
signal_by whose bus which = record { owner = whose; which = which; wanted = wanted_of which bus }

-- the parts that the name of a signal finds, at a link whose bus has so many bytes.
abbrev pub parts_by : List Var → SignalOwner → ℕ → Signal × SignalName → Result (List Source) SearchFault
parts_by vars whose bus named = signal_parts vars (signal_by whose bus named.0) named.1

-- the parts that the names of some signals find, in their order.
abbrev pub signals_named : List Var → SignalOwner → ℕ → List Signal → List SignalName → Result (List (List Source)) SearchFault
signals_named vars whose bus signals names = each (parts_by vars whose bus) (zip signals names)

-- the parts that the names of all signals of a link find, in their order.
abbrev pub sources_of : List Var → SignalOwner → ℕ → List SignalName → Result (List (List Source)) SearchFault
sources_of vars whose bus names = signals_named vars whose bus SIGNALS names

-- a link, what the names of its own clock and reset find, and the parts of its signals that their names find
pub record LinkSources : Type 0 where
  pub link : Link
  pub clock : ClockSources
  pub signals : List (List Source)

-- the link of a port or of a master of this number.
abbrev pub link_at : Bool → ℕ → Link
link_at true number = link.Port number
link_at false number = link.Master number

-- whose signals those of a link are.
abbrev pub owner_of : Link → SignalOwner
owner_of (link.Port number) = owner.Port number
owner_of (link.Master number) = owner.Master number

-- a link that has names, and its bus
pub record NamedLink : Type 0 where
  pub link : Link
  pub bus : Bus
  pub names : LinkNames

-- the names of each port or of each master, if it has any
abbrev pub NamesOf : Type 0
NamesOf = List (Option LinkNames)

-- those of this number
abbrev pub names_at : NamesOf → ℕ → Option LinkNames
names_at names number = option_and_then (λ own. own) (slice_get names number)

-- the link of this number and others, if it has names
abbrev pub named_before : Bool → ℕ → Bus → Option LinkNames → List NamedLink → List NamedLink
named_before is_port number bus None links = links
named_before is_port number bus (Some names) links =
    record { link = link_at is_port number; bus = bus; names = names } ∷ links

-- the links of a kind that have names, of those that have these buses; the first of them has this number
abbrev pub numbered : Bool → NamesOf → ℕ → List Bus → List NamedLink
numbered is_port names number [] = []
numbered is_port names number (bus ∷ buses) =
    named_before is_port number bus (names_at names number) (numbered is_port names (number + 1) buses)

-- what the names of a link find, or the first fault: its own clock and reset first
unfoldable pub named_sources : List Var → Link → ℕ → LinkNames → Result LinkSources SearchFault
named_sources vars link bus names = do
  clock ← clock_sources vars (owner_of link) names.clock
  signals ← sources_of vars (owner_of link) bus names.signals
  Ok (record { link = link; clock = clock; signals = signals })

-- what the names of a link find, which has a bus.
abbrev pub link_sources : List Var → NamedLink → Result LinkSources SearchFault
link_sources vars named = named_sources vars named.link (bus_bytes named.bus) named.names

-- what the names of all links of a kind find, of which the first has this number.
unfoldable pub links_from : List Var → Bool → NamesOf → ℕ → List Bus → Result (List LinkSources) SearchFault
links_from vars is_port names number buses = each (link_sources vars) (numbered is_port names number buses)

-- what all names find: those of the system's clock and reset, and those of each link; and whether resets of the whole system are
-- told
pub record FoundSources : Type 0 where
  pub system : ClockSources
  pub resets : Bool
  pub ports : List LinkSources
  pub masters : List LinkSources

-- or the first fault: System's signals first, then port by port and master by master those of its link. The masters'
-- links and the ports' have these buses
unfoldable pub sources_in : List Var → List Bus → List Bus → SignalNames → Result FoundSources SearchFault
sources_in vars of_masters of_ports names = do
  system ← clock_sources vars owner.System names.system
  ports ← links_from vars true names.ports 0 of_ports
  masters ← links_from vars false names.masters 0 of_masters
  Ok (record { system = system; resets = names.resets; ports = ports; masters = masters })

-- ---- what is kept

-- two values are one: of one identifier, or constants with the same digits
abbrev pub is_same : Kept → Kept → Bool
is_same (Changing one width) (Changing other count) = bytes_eq one other
is_same (Changing one width) (Constant digit count) = false
is_same (Constant digit bits) (Changing other count) = false
is_same (Constant digit bits) (Constant other count) = (digit == other) && (bits == count)

-- a value is among those that are kept.
abbrev pub is_kept : List Kept → Kept → Bool
is_kept kept value = list_any (λ other. is_same other value) kept

-- the values that are to be kept beside some that are, each once
abbrev pub distinct : List Kept → List Kept → List Kept
distinct some [] = []
distinct some (value ∷ values) =
    if is_kept some value then distinct some values else value ∷ distinct (some ++ (value ∷ [])) values

-- a clock and a reset, as far as there are any, before other sources
abbrev pub with_lines : ClockSources → List Source → List Source
with_lines own others = cons_option own.clock (cons_option own.reset others)

-- all sources of a link: its clock and its reset, as far as there are any, and then its signals.
abbrev pub of_link : LinkSources → List Source
of_link found = with_lines found.clock (all_parts found.signals)

-- all sources of these links, one link after the other.
abbrev pub flat : List LinkSources → List Source
flat links = flat_map of_link links

-- all sources of a system: its clock and its reset, and then those of the ports' and of the masters' links.
abbrev pub all_of : FoundSources → List Source
all_of sources = with_lines sources.system (flat sources.ports ++ flat sources.masters)

-- the values of these sources, each identifier and each constant once, in the order in which they come first.
unfoldable pub values_kept : List Source → List Kept
values_kept sources = distinct [] (map (λ source. source.kept) sources)

-- the place of a value among those that are kept: its slot
abbrev pub slot_place : List Kept → Kept → ℕ
slot_place [] value = 0
slot_place (other ∷ kept) value = if is_same other value then 0 else slot_place kept value + 1

-- the digits of a source, in the slot of its value.
abbrev pub tap_by : List Kept → Source → Tap
tap_by kept source = record { slot = slot_place kept source.kept; from = source.from; to = source.to }

-- ---- what is put together

-- the parts that a signal adds to what is put together: its own, if it has several.
abbrev pub joins_of : List Kept → List Source → List Tap
joins_of kept (part ∷ []) = []
joins_of kept parts = map (tap_by kept) parts

-- how many bits a signal adds to what is put together: 0 if it has one part.
abbrev pub joined_bits : List Source → ℕ
joined_bits (part ∷ []) = 0
joined_bits parts = parts_bits parts

-- where the digits of a signal are: those of its one part; or else so many of what is put together, of which so many stand
-- before
abbrev pub tap_of : List Kept → ℕ → List Source → Tap
tap_of kept before (part ∷ []) = tap_by kept part
tap_of kept before parts = record { slot = length kept; from = before; to = before + parts_bits parts }

-- the parts that some signals add to what is put together, one after the other.
abbrev pub joins_in : List Kept → List (List Source) → List Tap
joins_in kept signals = flat_map (joins_of kept) signals

-- how many bits some signals add to what is put together.
abbrev pub bits_in : List (List Source) → ℕ
bits_in [] = 0
bits_in (parts ∷ signals) = joined_bits parts + bits_in signals

-- where the digits of some signals are; so many bits are put together of those before them.
abbrev pub taps_from : List Kept → ℕ → List (List Source) → List Tap
taps_from kept before [] = []
taps_from kept before (parts ∷ signals) =
    tap_of kept before parts ∷ taps_from kept (before + joined_bits parts) signals

-- the parts that the signals of links add to what is put together, one after the other.
abbrev pub link_joins : List Kept → List LinkSources → List Tap
link_joins kept links = flat_map (λ found. joins_in kept found.signals) links

-- how many bits the signals of links add to what is put together.
abbrev pub link_bits : List LinkSources → ℕ
link_bits [] = 0
link_bits (found ∷ links) = bits_in found.signals + link_bits links

-- ---- the domains

-- two texts are the same, or there is neither.
abbrev pub same_text : Option (List ℕ) → Option (List ℕ) → Bool
same_text None None = true
same_text None (Some other) = false
same_text (Some one) None = false
same_text (Some one) (Some other) = bytes_eq one other

-- two clocks have the same edges.
abbrev pub same_edge : Edge → Edge → Bool
same_edge Rising Rising = true
same_edge Rising Falling = false
same_edge Falling Rising = false
same_edge Falling Falling = true

-- two flags are the same.
abbrev pub same_flag : Bool → Bool → Bool
same_flag true other = other
same_flag false other = not other

-- the same is said of two clocks and of their resets: their names, the edges, and whether the reset is active at 0.
abbrev pub same_clock : ClockNames → ClockNames → Bool
same_clock one other =
    (same_text one.clock other.clock && same_edge one.edge other.edge)
    && (same_text one.reset other.reset && same_flag one.is_low other.is_low)

-- the place of the one of which the same is said
abbrev pub domain_place : List ClockSources → ClockNames → ℕ
domain_place [] names = 0
domain_place (other ∷ others) names = if same_clock other.names names then 0 else domain_place others names + 1

-- the same is said of one of these clocks.
abbrev pub clocks_known : List ClockSources → ClockNames → Bool
clocks_known some names = list_any (λ other. same_clock other.names names) some

-- the clocks and resets of links, in order.
abbrev pub clocks_of : List LinkSources → List ClockSources
clocks_of links = map (λ found. found.clock) links

-- these clocks and resets, and then the others of which something else is said, each once.
unfoldable pub with_clocks : List ClockSources → List ClockSources → List ClockSources
with_clocks some [] = some
with_clocks some (own ∷ others) =
    if clocks_known some own.names then with_clocks some others else with_clocks (some ++ (own ∷ [])) others

-- a link that has the system's clock, edges and reset, and so no other
abbrev pub has_system : ClockNames → ClockSources → Bool
has_system system own =
    same_clock own.names (record { clock = None; edge = system.edge; reset = None; is_low = system.is_low })

-- the clocks and resets of all links, each once: the system's first, if a link has it, then those of ports and of masters in
-- order
abbrev pub clocks_of_links : ClockNames → List ClockSources → List ClockSources
clocks_of_links system links = with_clocks (with_clocks [] (filter (has_system system) links)) links

-- the clocks and resets of all domains of a system.
abbrev pub all_clocks : FoundSources → List ClockSources
all_clocks sources = clocks_of_links sources.system.names (clocks_of sources.ports ++ clocks_of sources.masters)

-- a reset by what its name finds; none if there is no name.
abbrev pub reset_by : List Kept → Bool → Option Source → Option Reset
reset_by kept is_low None = None
reset_by kept is_low (Some reset) = Some (record { tap = tap_by kept reset; is_low = is_low })

-- the system's clock and reset, if it has both
abbrev pub both_lines : List Kept → ClockNames → Option Source → Option Source → Option SystemReset
both_lines kept names None reset = None
both_lines kept names (Some clock) None = None
both_lines kept names (Some clock) (Some reset) = Some (record {
  clock = record { tap = tap_by kept clock; edge = names.edge };
  reset = record { tap = tap_by kept reset; is_low = names.is_low };
})

-- if resets of the whole system are told
abbrev pub system_reset : Bool → List Kept → ClockSources → Option SystemReset
system_reset false kept system = None
system_reset true kept system = both_lines kept system.names system.clock system.reset

-- the first of two, if there is one
abbrev pub first_source : Option Source → Option Source → Option Source
first_source None other = other
first_source (Some source) other = Some source

-- a link's own clock has no reset but its own
abbrev pub own_domain : List Kept → Source → ClockSources → Domain
own_domain kept clock own = record {
  clock = record { tap = tap_by kept clock; edge = own.names.edge };
  clock_name = own.names.clock;
  reset = reset_by kept own.names.is_low own.reset;
  reset_name = own.names.reset;
}

-- a link without one has the system's, and the system's reset if it has no other. A system whose links need a clock has one
abbrev pub shared_domain : List Kept → ClockSources → ClockSources → Domain
shared_domain kept system own = record {
  clock = record { tap = tap_by kept (unwrap_or system.clock left_out); edge = own.names.edge };
  clock_name = None;
  reset = reset_by kept own.names.is_low (first_source own.reset system.reset);
  reset_name = own.names.reset;
}

-- the domain of a link, by what the name of its own clock finds; the system's clock if it has none.
abbrev pub domain_by : List Kept → ClockSources → ClockSources → Option Source → Domain
domain_by kept system own None = shared_domain kept system own
domain_by kept system own (Some clock) = own_domain kept clock own

-- the domain of a link: its own clock with no reset but its own, or the system's clock with the link's own reset or else
-- the system's.
abbrev pub domain_of : List Kept → ClockSources → ClockSources → Domain
domain_of kept system own = domain_by kept system own own.clock

-- ---- what is looked at

-- the channels of a link, by the place of its domain and the taps of its signals in the order of their names
abbrev pub channels_of_link : Link → ℕ → List Tap → Option (Channel × Channel)
channels_of_link link domain (a_valid ∷ a_ready ∷ a_opcode ∷ a_param ∷ a_size ∷ a_source ∷ a_address ∷ a_mask ∷ a_data
    ∷ a_corrupt ∷ d_valid ∷ d_ready ∷ d_opcode ∷ d_param ∷ d_size ∷ d_source ∷ d_data ∷ d_denied ∷ d_corrupt ∷ []) = Some (
      record {
        link = link;
        domain = domain;
        valid = a_valid;
        ready = a_ready;
        beat = A (record {
          opcode = a_opcode;
          param = a_param;
          size = a_size;
          source = a_source;
          address = a_address;
          mask = a_mask;
          «data» = a_data;
          corrupt = a_corrupt;
        });
      },
      record {
        link = link;
        domain = domain;
        valid = d_valid;
        ready = d_ready;
        beat = D (record {
          opcode = d_opcode;
          param = d_param;
          size = d_size;
          source = d_source;
          «data» = d_data;
          denied = d_denied;
          corrupt = d_corrupt;
        });
      },
    )
channels_of_link link domain taps = None

-- those of links, whose domains are these; so many bits are put together of signals that stand before theirs
abbrev pub channel_pairs : List Kept → List ClockSources → ℕ → List LinkSources → List (Channel × Channel)
channel_pairs kept clocks before [] = []
channel_pairs kept clocks before (found ∷ links) =
    cons_option (channels_of_link found.link (domain_place clocks found.clock.names) (taps_from kept before found.signals))
    (channel_pairs kept clocks (before + bits_in found.signals) links)

-- the order in which beats cross within one time
abbrev pub in_order : List (Channel × Channel) → List (Channel × Channel) → List Channel
in_order ports masters =
    map (λ pair. pair.0) masters ++ map (λ pair. pair.0) ports ++ map (λ pair. pair.1) ports
    ++ map (λ pair. pair.1) masters

-- what is looked at, and the values that are kept, each in the slot of its place
pub record Found : Type 0 where
  pub probes : Probes
  pub kept : List Kept

-- what is looked at and kept, if these values are kept and these are the clocks and resets of the domains.
abbrev pub found_by : List Kept → List ClockSources → FoundSources → Found
found_by kept clocks sources = record {
  probes = record {
    domains = map (domain_of kept sources.system) clocks;
    resets = system_reset sources.resets kept sources.system;
    joins = link_joins kept sources.ports ++ link_joins kept sources.masters;
    channels = in_order (channel_pairs kept clocks 0 sources.ports)
        (channel_pairs kept clocks (link_bits sources.ports) sources.masters);
  };
  kept = kept;
}

-- what is looked at and kept, by all that the names find.
abbrev pub found_of : FoundSources → Found
found_of sources = found_by (values_kept (all_of sources)) (all_clocks sources) sources

-- what the names of a system file find among the signals of a header, or the first fault, where the masters' links and
-- the ports' have these buses
unfoldable pub found_in : List Var → List Bus → List Bus → SignalNames → Result Found SearchFault
found_in vars masters ports names = sources_in vars masters ports names >>= (λ sources. Ok (found_of sources))

-- ---- how a dump is read so

-- how many bits a kept value has.
abbrev pub width_in : Kept → ℕ
width_in (Changing code width) = width
width_in (Constant digit width) = width

-- the digits of a kept value before a dump's body: those of a constant are known, and no others.
abbrev pub digits_in : Kept → List ℕ
digits_in (Changing code width) = unknown width
digits_in (Constant digit width) = replicate width digit

-- the identifier by which a kept value changes; a constant has none.
abbrev pub code_in : Kept → Option (List ℕ)
code_in (Changing code width) = Some code
code_in (Constant digit width) = None

-- before the body no value was before another, nothing was put together, and only constants are known
abbrev pub sampling_of : Found → Sampling
sampling_of found =
    sampling_by found.probes (map (λ value. unknown (width_in value)) found.kept ++ ([] ∷ [])) (map digits_in found.kept)
    (map width_in found.kept)

-- identifiers have slots, each that of its place
abbrev pub slot_one : Option (List ℕ) → ℕ → Find → Find
slot_one None slot find other = find other
slot_one (Some code) slot find other = if bytes_eq code other then with_slot slot (find other) else find other

-- what is known of identifiers, with the slots of these, of which the first has this slot.
abbrev pub slots_from : List (Option (List ℕ)) → ℕ → Find → Find
slots_from [] slot find other = find other
slots_from (code ∷ codes) slot find other = slots_from codes (slot + 1) (slot_one code slot find) other

-- what is known of the identifiers of a header then
abbrev pub find_of : List Var → Found → Find
find_of vars found = slots_from (map code_in found.kept) 0 (coded_in vars)

-- ---- what calls answer

-- what contracts see of what the names of a clock and a reset find.
abbrev pub clocks_view : code_domains.ClockSources → ClockSources
clocks_view own = record {
  names = clock_view own.names.now;
  clock = option_map source_view own.clock;
  reset = option_map source_view own.reset;
}

-- what contracts see of what the names of a link find.
abbrev pub link_sources_view : code_links.LinkSources → LinkSources
link_sources_view found =
    record { link = found.link; clock = clocks_view found.clock; signals = signals_view found.signals.items }

-- the same of several links.
abbrev pub links_view : Vec code_links.LinkSources Global → List LinkSources
links_view links = map link_sources_view links.items

-- what contracts see of what all names find.
abbrev pub sources_view : code_sources.Sources → FoundSources
sources_view sources = record {
  system = clocks_view sources.system;
  resets = sources.resets;
  ports = map link_sources_view sources.ports.items;
  masters = map link_sources_view sources.masters.items;
}

-- the identifiers of values, as text
abbrev pub codes_view : Vec (Option (Vec ℕ Global)) Global → List (Option (List ℕ))
codes_view codes = map (λ code. option_map (λ code. code.items) code) codes.items

-- this is looked at and kept
pub record IsResolved (resolved : code_resolved.Resolved) (found : Found) : Type 0 where
  pub probes : view_of resolved.probes ≡ found.probes
  pub before : all_before resolved.values ≡ map (λ value. unknown (width_in value)) found.kept ++ ([] ∷ [])
  pub now : all_now resolved.values ≡ map digits_in found.kept
  pub widths : all_widths resolved.values ≡ map width_in found.kept
  pub codes : codes_view resolved.codes ≡ map code_in found.kept

-- what was found is looked at and kept
abbrev pub IsFound : Result Found SearchFault → code_resolved.Resolved → Type 0
IsFound (Ok found) resolved = IsResolved resolved found
IsFound (Err fault) resolved = ⊥
