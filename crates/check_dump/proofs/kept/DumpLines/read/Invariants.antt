-- Nothing is lost as the dump is read on, and the next line begins within the text at hand.
use Rattle.std.proofs.Common.{◌≡◌}
use Rattle.check_vcd.specs.Words.{Both}
use Rattle.check_dump.specs.Lines.{IsInside, coming}
use Rattle.check_dump.proofs.kept.DumpLines.read.Given as goal

abbrev pub invariant-loop : goal.invariant-loop
invariant-loop g l = record {
  inside : IsInside l.self;
  same : Both (coming l.fn.self) (coming l.self) (λ from to. to ≡ from);
}
