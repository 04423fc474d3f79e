-- The first of the wires to come is that of all.
use Rattle.std.proofs.Common.{◌≡◌, drop, map}
use Rattle.check_vcd.specs.Header.{var_view}
use Rattle.check_signals.specs.Wires.{first_of, wires}
use Rattle.check_signals.proofs.wires.first_wire.Given as goal

abbrev pub invariant-loop-var : goal.invariant-loop-var
invariant-loop-var l =
    first_of (wires l.name l.part (map var_view (drop l.var-index l.vars)))
    ≡ first_of (wires l.name l.part (map var_view l.vars))
