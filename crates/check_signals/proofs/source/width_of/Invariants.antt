-- The width so far, and those of the signals to come, are those of all.
use Rattle.std.proofs.Common.{◌≡◌, Some, None, drop, map}
use Rattle.check_vcd.specs.Codes.{coded_from}
use Rattle.check_vcd.specs.Header.{var_view}
use Rattle.check_signals.specs.Source.{width_by, width_of}
use Rattle.check_signals.proofs.source.width_of.Given as goal

abbrev pub invariant-loop-var : goal.invariant-loop-var
invariant-loop-var l =
    width_by (coded_from (Some (record { width = l.width; slot = None })) (map var_view (drop l.var-index l.vars)) l.code)
    ≡ width_of (map var_view l.vars) l.code
