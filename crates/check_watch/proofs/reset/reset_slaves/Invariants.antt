use Rattle.check_watch.proofs.Resetting.{FirstReset}
use Rattle.check_watch.proofs.reset.reset_slaves.Given as goal

abbrev pub invariant-loop-port : goal.invariant-loop-port
invariant-loop-port l = FirstReset l.initial.slaves l.slaves l.initial.loaded l.loaded l.port
