-- What was read stands at the front of the chunk.
use Rattle.std.proofs.Common.{◌≡◌, ◌≤◌, ◌-◌}
use Rattle.std.specs.Io.KnownBytes.{Keeps}
use Rattle.check_records.specs.Source.{text_left}
use Rattle.check_records.proofs.source.Source.read_front.Given as goal

abbrev pub invariant-loop-self : goal.invariant-loop-self
invariant-loop-self g l = record {
  front : l.self.next ≡ 0;
  few : l.self.filled ≤ 3;
  text : Keeps (text_left g.R.Read.remaining l.fn.self) (text_left g.R.Read.remaining l.self);
  line : l.self.line ≡ l.fn.self.line;
}

abbrev pub decreases-loop-self : goal.decreases-loop-self
decreases-loop-self g l = 3 - l.self.filled
