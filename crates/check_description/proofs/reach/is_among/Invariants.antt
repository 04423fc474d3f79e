-- No number so far is the one.
use Rattle.std.proofs.Common.{◌≡◌, drop}
use Rattle.std.specs.Prelude.{◌==◌}
use Rattle.std.specs.List.{list_any}
use Rattle.check_description.proofs.reach.is_among.Given as goal

abbrev pub invariant-loop-other : goal.invariant-loop-other
invariant-loop-other l =
    list_any (λ n. n == l.number) (drop l.other-index l.numbers) ≡ list_any (λ n. n == l.number) l.numbers
