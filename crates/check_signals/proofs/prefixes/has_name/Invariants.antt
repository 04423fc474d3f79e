-- Whether one of the signals to come has the name says it of all.
use Rattle.std.proofs.Common.{◌≡◌, drop, map}
use Rattle.check_vcd.specs.Header.{var_view}
use Rattle.check_signals.specs.Prefixes.{has_name}
use Rattle.check_signals.proofs.prefixes.has_name.Given as goal

abbrev pub invariant-loop-var : goal.invariant-loop-var
invariant-loop-var l = has_name (map var_view (drop l.var-index l.vars)) l.name ≡ has_name (map var_view l.vars) l.name
