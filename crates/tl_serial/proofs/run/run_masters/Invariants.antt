-- The masters so far have run.
use Rattle.std.proofs.Common.{◌≡◌, Bool, [], map, take, length}
use Rattle.tl_journal.specs.Trace.{entries_in}
use Rattle.tl_script.specs.System.{sends}
use Rattle.tl_serial.specs.Serial.{asks_in, log_of}
use Rattle.tl_serial.specs.Slave.{Stand}
use Rattle.tl_serial.proofs.run.run_masters.Given as goal

abbrev pub invariant-loop-master : goal.invariant-loop-master
invariant-loop-master l = record {
  asked : map asks_in (entries_in l.traces.items) ≡ map sends (take l.master l.system.jobs);
  counted : length l.traces.items ≡ l.master;
  stands : (keeps : Bool) → Stand l.system keeps [] l.initial.slaves
      → Stand l.system keeps (log_of (entries_in l.traces.items)) l.slaves;
}
