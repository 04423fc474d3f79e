-- Whether one of the signals to come is no bit says it of all.
use Rattle.std.proofs.Common.{◌≡◌, drop, map}
use Rattle.check_vcd.specs.Header.{var_view}
use Rattle.check_signals.specs.Nets.{has_whole}
use Rattle.check_signals.proofs.nets.has_whole.Given as goal

abbrev pub invariant-loop-var : goal.invariant-loop-var
invariant-loop-var l =
    has_whole (map var_view (drop l.var-index l.vars)) l.name ≡ has_whole (map var_view l.vars) l.name
