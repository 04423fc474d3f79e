-- The first of the names to come that is declared is that of all.
use Rattle.std.proofs.Common.{◌≡◌, drop, map}
use Rattle.check_vcd.specs.Header.{var_view}
use Rattle.check_signals.specs.Prefixes.{first_declared}
use Rattle.check_signals.proofs.prefixes.first_declared.Given as goal

abbrev pub invariant-loop-name : goal.invariant-loop-name
invariant-loop-name l =
    first_declared (map var_view l.vars) (map (λ name. name.items) (drop l.name-index l.names))
    ≡ first_declared (map var_view l.vars) (map (λ name. name.items) l.names)
