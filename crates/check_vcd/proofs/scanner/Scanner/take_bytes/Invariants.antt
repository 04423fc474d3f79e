-- The bytes so far go on with the word at hand.
use Rattle.std.proofs.Common.{◌-◌, ◌≡◌, false}
use Rattle.check_vcd.specs.Scanner.{TakesWord}
use Rattle.check_vcd.proofs.scanner.Scanner.take_bytes.Given as goal

abbrev pub invariant-loop-self : goal.invariant-loop-self
invariant-loop-self g l = record {
  on : TakesWord l.fn.self l.self false;
  same : l.self.reader ≡ l.fn.self.reader;
}

abbrev pub decreases-loop-self : goal.decreases-loop-self
decreases-loop-self g l = l.self.filled - l.self.next
