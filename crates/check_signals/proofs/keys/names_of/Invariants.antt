-- The names so far, and those of the other signals, are the names of all.
use Rattle.std.proofs.Common.{◌≡◌, drop, map}
use Rattle.std.specs.Option.{option_map}
use Rattle.toml.specs.View.{table_view}
use Rattle.tl_text.specs.Reading.{each, with_front}
use Rattle.check_signals.specs.Names.{name_in, name_view}
use Rattle.check_signals.specs.Prefixes.{manner_view}
use Rattle.check_signals.proofs.keys.names_of.Given as goal

abbrev pub invariant-loop-signal : goal.invariant-loop-signal
invariant-loop-signal l =
    let read = name_in (manner_view l.manner) (option_map (λ wires. table_view wires.now) l.wires) in
    with_front (map name_view l.names.items) (each read (drop l.signal-index l.signals))
    ≡ each read l.signals
