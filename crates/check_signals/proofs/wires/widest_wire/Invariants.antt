-- The widest wire so far, beside the wires to come, is that of all.
use Rattle.std.proofs.Common.{◌≡◌, drop, map}
use Rattle.std.specs.Option.{IfSome, option_map}
use Rattle.check_vcd.specs.Header.{var_view}
use Rattle.check_signals.specs.Wires.{IsInside, widest_of, widest_with, wire_view, wires}
use Rattle.check_signals.proofs.wires.widest_wire.Given as goal

abbrev pub invariant-loop-var : goal.invariant-loop-var
invariant-loop-var l = record {
  wire : widest_with (option_map wire_view l.best) (wires l.name l.part (map var_view (drop l.var-index l.vars)))
      ≡ widest_of (wires l.name l.part (map var_view l.vars));
  inside : IfSome l.best IsInside;
}
