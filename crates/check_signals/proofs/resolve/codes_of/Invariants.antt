-- The identifiers so far, and those of the rest, are those of all.
use Rattle.std.proofs.Common.{◌≡◌, ◌++◌, drop, map}
use Rattle.check_signals.specs.Found.{code_in, codes_view}
use Rattle.check_signals.specs.Source.{kept_view}
use Rattle.check_signals.proofs.resolve.codes_of.Given as goal

abbrev pub invariant-loop-value : goal.invariant-loop-value
invariant-loop-value l =
    codes_view l.codes ++ map code_in (map kept_view (drop l.value-index l.kept))
    ≡ map code_in (map kept_view l.kept)
