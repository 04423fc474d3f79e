-- Whether the value is among those to come says whether it is kept.
use Rattle.std.proofs.Common.{◌≡◌, drop, map}
use Rattle.check_signals.specs.Found.{is_kept}
use Rattle.check_signals.specs.Source.{kept_view}
use Rattle.check_signals.proofs.kept.is_kept.Given as goal

abbrev pub invariant-loop-other : goal.invariant-loop-other
invariant-loop-other l =
    is_kept (map kept_view (drop l.other-index l.kept)) (kept_view l.value)
    ≡ is_kept (map kept_view l.kept) (kept_view l.value)
