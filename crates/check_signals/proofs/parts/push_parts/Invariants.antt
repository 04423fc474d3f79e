-- The parts so far, and those of the rest, are those of all.
use Rattle.std.proofs.Common.{◌≡◌, ◌++◌, drop, map}
use Rattle.check_signals.specs.Parts.{all_parts, signals_view}
use Rattle.check_signals.specs.Source.{source_view}
use Rattle.check_signals.proofs.parts.push_parts.Given as goal

abbrev pub invariant-loop-parts : goal.invariant-loop-parts
invariant-loop-parts l =
    map source_view l.all.items ++ all_parts (signals_view (drop l.parts-index l.signals))
    ≡ map source_view l.fn.all.items ++ all_parts (signals_view l.signals)
