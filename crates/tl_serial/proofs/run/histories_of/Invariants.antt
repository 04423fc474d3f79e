-- The histories so far.
use Rattle.std.proofs.Common.{◌≡◌, map}
use Rattle.tl_journal.specs.Journal.{pairs_in}
use Rattle.tl_serial.specs.Slave.{history_of}
use Rattle.tl_serial.proofs.run.histories_of.Given as goal

abbrev pub invariant-loop-slave : goal.invariant-loop-slave
invariant-loop-slave l = pairs_in l.histories.items ≡ map history_of l.yielded
