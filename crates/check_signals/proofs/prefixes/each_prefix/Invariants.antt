-- The prefixes so far, and those of the rest, are the prefixes of all.
use Rattle.std.proofs.Common.{◌≡◌, drop, map}
use Rattle.toml.specs.View.{view}
use Rattle.tl_text.specs.Reading.{each, with_front}
use Rattle.check_signals.specs.Values.{signal_text_of}
use Rattle.check_signals.specs.declared.fault.SignalKey.TheVariants.{Signals}
use Rattle.check_signals.proofs.prefixes.each_prefix.Given as goal

abbrev pub invariant-loop-value : goal.invariant-loop-value
invariant-loop-value l =
    with_front (map (λ prefix. prefix.now) l.prefixes.items)
    (each (signal_text_of Signals) (map view (drop l.value-index l.values)))
    ≡ each (signal_text_of Signals) (map view l.values)
