-- The values so far, and those of the rest, are those of all.
use Rattle.std.proofs.Common.{◌≡◌, ◌++◌, [], drop, map}
use Rattle.check_samples.specs.Digits.{unknown}
use Rattle.check_samples.specs.Values.{all_now, all_widths, kept_before}
use Rattle.check_signals.specs.Found.{digits_in, width_in}
use Rattle.check_signals.specs.Source.{kept_view}
use Rattle.check_signals.proofs.resolve.values_of.Given as goal

abbrev pub invariant-loop-value : goal.invariant-loop-value
invariant-loop-value l =
    let rest = map kept_view (drop l.value-index l.kept) in
    let all = map kept_view l.kept in
    record {
      joined : l.values.joined.items ≡ [];
      before : kept_before l.values ++ map (λ value. unknown (width_in value)) rest
          ≡ map (λ value. unknown (width_in value)) all;
      now : all_now l.values ++ map digits_in rest ≡ map digits_in all;
      widths : all_widths l.values ++ map width_in rest ≡ map width_in all;
    }
