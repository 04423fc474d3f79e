-- The place among the values to come, counted from here, is that among all.
use Rattle.std.proofs.Common.{◌≡◌, ◌+◌, drop, map}
use Rattle.check_signals.specs.Found.{slot_place}
use Rattle.check_signals.specs.Source.{kept_view}
use Rattle.check_signals.proofs.kept.slot_place.Given as goal

abbrev pub invariant-loop-place : goal.invariant-loop-place
invariant-loop-place l =
    l.place + slot_place (map kept_view (drop l.place l.kept)) (kept_view l.value)
    ≡ slot_place (map kept_view l.kept) (kept_view l.value)
