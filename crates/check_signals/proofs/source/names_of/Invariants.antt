-- The names so far, and those of the rest, are the names of all.
use Rattle.std.proofs.Common.{◌≡◌, ◌++◌, drop, map}
use Rattle.check_vcd.specs.Header.{var_view}
use Rattle.check_signals.proofs.source.names_of.Given as goal

abbrev pub invariant-loop-var : goal.invariant-loop-var
invariant-loop-var l =
    map (λ name. name.now) l.names.items ++ map (λ var. var.name) (map var_view (drop l.var-index l.vars))
    ≡ map (λ var. var.name) (map var_view l.vars)
