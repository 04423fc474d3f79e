-- Changes are taken, and nothing is appended: the rows that are left to come are the same.
use Rattle.std.proofs.Common.{◌≡◌}
use Rattle.check_vcd.specs.Words.{Both}
use Rattle.check_samples.specs.Due.{due_text}
use Rattle.check_samples.specs.Left.{left_in}
use Rattle.check_samples.proofs.rows.Rows.read.Given as goal

abbrev pub invariant-loop : goal.invariant-loop
invariant-loop g l = record {
  same : Both l.fn.self (left_in l.self-inside.dump l.self-inside.sampler) (λ from to. to ≡ from);
  text : due_text l.due ≡ due_text l.fn.due;
}
