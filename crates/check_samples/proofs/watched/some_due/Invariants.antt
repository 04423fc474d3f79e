-- Whether something was noted of one of the domains to come says it of all.
use Rattle.std.proofs.Common.{◌≡◌, drop, is_some, map}
use Rattle.std.specs.List.{list_any}
use Rattle.check_samples.proofs.watched.some_due.Given as goal

abbrev pub invariant-loop-one : goal.invariant-loop-one
invariant-loop-one l =
    list_any (λ due. is_some due) (map (λ one. one.due) (drop l.one-index l.watched))
    ≡ list_any (λ due. is_some due) (map (λ one. one.due) l.watched)
