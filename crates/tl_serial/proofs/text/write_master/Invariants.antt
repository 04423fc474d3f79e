-- The lines of the operations so far are written.
use Rattle.std.proofs.Common.{take}
use Rattle.tl_serial.specs.Slave.{IsAppended}
use Rattle.tl_serial.proofs.text.write_master.Given as goal

abbrev pub invariant-loop-number : goal.invariant-loop-number
invariant-loop-number l =
    IsAppended l.system l.master (take l.number l.jobs) l.initial.slaves l.slaves l.initial.text.items l.text.items
