-- The bytes so far are what was taken, and they are within the limit. Each turn takes a read.
use Rattle.std.proofs.Common.{◌≡◌, ◌≤◌, vec_len}
use Rattle.std.specs.Io.KnownBytes.{Consumes}
use Rattle.tl_streams.proofs.streams.read_up_to.Given as goal

abbrev pub invariant-loop-chunk : goal.invariant-loop-chunk
invariant-loop-chunk g l = record {
  same : l.reader.reader.ghost_name ≡ l.initial.reader.reader.ghost_name;
  taken : Consumes (g.R.Read.remaining l.initial.reader.reader.now)
      (g.R.Read.remaining l.reader.reader.now) l.bytes.items;
  bounded : vec_len l.bytes ≤ l.limit;
  fewer : l.reader.reads_left ≤ l.initial.reader.reads_left;
}

abbrev pub decreases-loop-chunk : goal.decreases-loop-chunk
decreases-loop-chunk g l = l.reader.reads_left
