-- The values so far, and those of the rest that are not among them, are those of all.
use Rattle.std.proofs.Common.{◌≡◌, ◌++◌, [], drop, map}
use Rattle.check_signals.specs.Found.{distinct}
use Rattle.check_signals.specs.Source.{Source, kept_view, source_view}
use Rattle.check_signals.proofs.kept.values_kept.Given as goal

abbrev pub invariant-loop-source : goal.invariant-loop-source
invariant-loop-source l =
    let kept = map kept_view l.kept.items in
    kept ++ distinct kept (map (λ (source : Source). source.kept) (map source_view (drop l.source-index l.sources)))
    ≡ distinct [] (map (λ (source : Source). source.kept) (map source_view l.sources))
