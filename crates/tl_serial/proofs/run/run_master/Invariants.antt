-- The requests so far are served, and there is room for the others' entries.
use Rattle.std.proofs.Common.{◌≡◌, ◌≤◌, ◌++◌, ℕ, Bool, List, length, take}
use Rattle.tl_types.specs.declared.trace.Entry.{Entry}
use Rattle.tl_script.specs.System.{sends}
use Rattle.tl_serial.specs.Serial.{asks_in, numbered}
use Rattle.tl_serial.specs.Slave.{Stand}
use Rattle.tl_serial.proofs.run.run_master.Given as goal

abbrev pub invariant-loop-number : goal.invariant-loop-number
invariant-loop-number l = record {
  room : l.trace.room ≡ length l.jobs;
  few : length l.trace.items ≤ l.number;
  asked : asks_in l.trace.items ≡ sends (take l.number l.jobs);
  stands : (keeps : Bool) (log : List (ℕ × Entry)) → Stand l.system keeps log l.initial.slaves
      → Stand l.system keeps (log ++ numbered l.master l.trace.items) l.slaves;
}
