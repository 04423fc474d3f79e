-- The taps so far, and those of the rest, are those of all; and so is what is put together.
use Rattle.std.proofs.Common.{◌≡◌, ◌+◌, ◌++◌, drop, map}
use Rattle.check_signals.specs.Found.{bits_in, joins_in, taps_from}
use Rattle.check_signals.specs.Parts.{signals_view}
use Rattle.check_signals.specs.Source.{kept_view}
use Rattle.check_signals.proofs.links.taps_of.Given as goal

abbrev pub invariant-loop-parts : goal.invariant-loop-parts
invariant-loop-parts l =
    let kept = map kept_view l.kept in
    let rest = signals_view (drop l.parts-index l.signals) in
    let all = signals_view l.signals in
    record {
      found : l.taps.items ++ taps_from kept l.joins.bits rest ≡ taps_from kept l.fn.joins.bits all;
      taps : l.joins.taps.items ++ joins_in kept rest ≡ l.fn.joins.taps.items ++ joins_in kept all;
      bits : l.joins.bits + bits_in rest ≡ l.fn.joins.bits + bits_in all;
    }
