-- The words that are left after the word at hand are those that were.
use Rattle.check_vcd.specs.Words.{IsFront, nothing}
use Rattle.check_vcd.specs.Scanner.{front, left}
use Rattle.check_vcd.proofs.LeftLemmas.{AreSame}
use Rattle.check_vcd.proofs.scanner.Scanner.read.Given as goal

abbrev pub invariant-loop : goal.invariant-loop
invariant-loop g l = record {
  same : AreSame (left g.R.Read.remaining l.fn.self nothing) (left g.R.Read.remaining l.self (front l.self));
  front_is : IsFront (front l.self);
}
