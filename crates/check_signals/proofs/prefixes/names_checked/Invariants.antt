-- What is said of the signals to come decides, since nothing so far is wrong.
use Rattle.std.proofs.Common.{◌≡◌, drop}
use Rattle.std.specs.Option.{option_map}
use Rattle.toml.specs.View.{table_view}
use Rattle.check_signals.specs.Prefixes.{names_checked}
use Rattle.check_signals.proofs.prefixes.names_checked.Given as goal

abbrev pub invariant-loop-signal : goal.invariant-loop-signal
invariant-loop-signal l =
    let names = option_map (λ names. table_view names.now) l.names in
    names_checked names (drop l.signal-index l.signals) ≡ names_checked names l.signals
