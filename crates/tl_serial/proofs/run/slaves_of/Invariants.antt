-- The banks so far are slaves at reset.
use Rattle.std.proofs.Common.{◌≡◌, map}
use Rattle.std.specs.Prelude.{All}
use Rattle.tl_serial.specs.Slave.{IsFresh, bank_of}
use Rattle.tl_serial.proofs.run.slaves_of.Given as goal

abbrev pub invariant-loop-bank : goal.invariant-loop-bank
invariant-loop-bank l = record {
  banks : map bank_of l.slaves.items ≡ l.yielded;
  fresh : All (IsFresh l.keeps) l.slaves.items;
}
