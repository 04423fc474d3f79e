-- Whether one of the wires to come has another identifier says it of all.
use Rattle.std.proofs.Common.{◌≡◌, drop, map, not}
use Rattle.std.specs.List.{list_any}
use Rattle.std.specs.Str.{bytes_eq}
use Rattle.check_vcd.specs.Header.{var_view}
use Rattle.check_signals.specs.Wires.{Wire, wires}
use Rattle.check_signals.proofs.wires.has_another.Given as goal

abbrev pub invariant-loop-var : goal.invariant-loop-var
invariant-loop-var l =
    let is_other = λ (wire : Wire). not (bytes_eq wire.var.code l.code) in
    list_any is_other (wires l.name l.part (map var_view (drop l.var-index l.vars)))
    ≡ list_any is_other (wires l.name l.part (map var_view l.vars))
