-- The names so far, and those behind the other prefixes, are those behind all.
use Rattle.std.proofs.Common.{◌≡◌, ◌++◌, drop, map}
use Rattle.check_signals.specs.Prefixes.{behind_each}
use Rattle.check_signals.proofs.prefixes.behind_each.Given as goal

abbrev pub invariant-loop-prefix : goal.invariant-loop-prefix
invariant-loop-prefix l =
    map (λ name. name.items) l.names.items ++ behind_each l.text (map (λ prefix. prefix.now) (drop l.prefix-index l.prefixes))
    ≡ behind_each l.text (map (λ prefix. prefix.now) l.prefixes)
