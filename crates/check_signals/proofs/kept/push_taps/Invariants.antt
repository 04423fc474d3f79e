-- The taps so far, and those of the rest, are those of all.
use Rattle.std.proofs.Common.{◌≡◌, ◌++◌, drop, map}
use Rattle.check_signals.specs.Found.{tap_by}
use Rattle.check_signals.specs.Source.{kept_view, source_view}
use Rattle.check_signals.proofs.kept.push_taps.Given as goal

abbrev pub invariant-loop-source : goal.invariant-loop-source
invariant-loop-source l =
    let tap = tap_by (map kept_view l.kept) in
    l.taps.items ++ map tap (map source_view (drop l.source-index l.sources))
    ≡ l.fn.taps.items ++ map tap (map source_view l.sources)
