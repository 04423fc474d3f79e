use Rattle.check_sides.proofs.Restarting.{FirstReset}
use Rattle.check_sides.proofs.reset.reset_ports.Given as goal

abbrev pub invariant-loop-port : goal.invariant-loop-port
invariant-loop-port l = FirstReset l.initial.ports l.ports l.initial.loaded l.loaded l.port
