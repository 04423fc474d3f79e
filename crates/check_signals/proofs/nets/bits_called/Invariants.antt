-- The bits so far, and those of the rest, are those of all.
use Rattle.std.proofs.Common.{◌≡◌, ◌++◌, drop, map}
use Rattle.check_vcd.specs.Header.{var_view}
use Rattle.check_signals.specs.Nets.{bit_view, bits_called}
use Rattle.check_signals.proofs.nets.bits_called.Given as goal

abbrev pub invariant-loop-var : goal.invariant-loop-var
invariant-loop-var l =
    map bit_view l.bits.items ++ bits_called (map var_view (drop l.var-index l.vars)) l.name
    ≡ bits_called (map var_view l.vars) l.name
