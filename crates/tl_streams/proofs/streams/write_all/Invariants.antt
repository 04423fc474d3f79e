-- What is gone from `rest` was appended. Each turn takes bytes or a try.
use Rattle.std.proofs.Common.{◌≡◌, ◌+◌, List, ℕ, ◌++◌, length}
use Rattle.std.specs.Io.KnownBytes.{Appends}
use Rattle.tl_streams.proofs.streams.write_all.Given as goal

abbrev pub invariant-loop-rest : goal.invariant-loop-rest
invariant-loop-rest g l = record {
  same : l.writer.writer.ghost_name ≡ l.initial.writer.writer.ghost_name;
  appended : (done : List ℕ) × (l.bytes ≡ done ++ l.rest)
      × Appends (g.W.Write.contents l.initial.writer.writer.now) (g.W.Write.contents l.writer.writer.now) done;
}

abbrev pub decreases-loop-rest : goal.decreases-loop-rest
decreases-loop-rest g l = length l.rest + l.writer.tries_left
