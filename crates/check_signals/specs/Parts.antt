-- The parts of a signal of a link, the highest bits first. This project's own.
use Rattle.std.specs.Prelude.{ℕ, List, map, Option, None, Some, Result, Ok, Err, Vec, if◌then◌else◌}
use Rattle.std.specs.Global.{Global}
use Rattle.std.specs.List.{flat_map}
use Rattle.tl_text.specs.Reading.{◌>>=◌, each}
use Rattle.check_vcd.specs.Header.{Var}
use Rattle.check_samples.specs.Signal.{signal_name}
use Rattle.check_samples.specs.declared.signal.Signal.{Signal}
use Rattle.check_signals.specs.Names.{SignalName, Prefixed, Wired, Joined}
use Rattle.check_signals.specs.Nets.{named_in}
use Rattle.check_signals.specs.Prefixes.{taken}
use Rattle.check_signals.specs.Source.{SearchFault, Source, Width, parts_bits, sources_view}
use Rattle.check_signals.specs.Wanted.{bits_fit, count_of}
use Rattle.check_signals.specs.declared.parts.LinkSignal.{LinkSignal}
use Rattle.check_signals.specs.declared.source.Source as code_source
use Rattle.check_signals.specs.declared.source.TheConstants.{MAX_WIDTH}
use Rattle.check_signals.specs.declared.wanted.Wanted.TheVariants.{AtMost}

-- the parts of several signals, one after the other
abbrev pub all_parts : List (List Source) → List Source
all_parts signals = flat_map (λ parts. parts) signals

-- what one name finds
abbrev pub whole_of : List Var → LinkSignal → List ℕ → Option Signal → Result (List Source) SearchFault
whole_of vars signal name behind =
    named_in vars (record { owner = signal.owner; name = name; behind = behind; wanted = signal.wanted })

-- what one of several names finds, which has any number of bits
abbrev pub part_of : List Var → LinkSignal → List ℕ → Result (List Source) SearchFault
part_of vars signal name =
    named_in vars (record { owner = signal.owner; name = name; behind = None; wanted = AtMost MAX_WIDTH })

-- several, which have as many bits together as are wanted; else the fault names the signal itself
abbrev pub fitting : LinkSignal → List Source → Result (List Source) SearchFault
fitting signal parts =
    if bits_fit signal.wanted (parts_bits parts) then Ok parts
    else Err (Width signal.owner (signal_name signal.which) (parts_bits parts) (count_of signal.wanted))

-- the parts of a signal of this name
abbrev pub signal_parts : List Var → LinkSignal → SignalName → Result (List Source) SearchFault
signal_parts vars signal (Prefixed names) = whole_of vars signal (taken vars names) (Some signal.which)
signal_parts vars signal (Wired name) = whole_of vars signal name None
signal_parts vars signal (Joined names) = each (part_of vars signal) names >>= (λ found. fitting signal (all_parts found))

-- ---- what calls answer

-- what contracts see of the parts of signals.
abbrev pub signals_view : List (Vec code_source.Source Global) → List (List Source)
signals_view signals = map sources_view signals
