-- The indices so far are as many as steps.
use Rattle.std.proofs.Common.{◌≡◌}
use Rattle.check_signals.specs.Nets.{indices_down}
use Rattle.check_signals.proofs.nets.indices_down.Given as goal

abbrev pub invariant-loop-step : goal.invariant-loop-step
invariant-loop-step l = l.indices.items ≡ indices_down l.from l.step
