-- The lines of the masters so far are written.
use Rattle.tl_serial.specs.Slave.{AreWritten}
use Rattle.tl_serial.proofs.text.write_masters.Given as goal

abbrev pub invariant-loop-master : goal.invariant-loop-master
invariant-loop-master l = AreWritten l.system l.initial.slaves l.slaves l.text.items l.master
