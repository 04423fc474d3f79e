-- The bytes so far are what was taken, and they are within the limit. What is known was found among them.
use Rattle.std.proofs.Common.{◌≡◌, ◌≤◌, true, vec_len}
use Rattle.std.specs.Io.KnownBytes.{Consumes}
use Rattle.check_program.specs.Front.{has_sign}
use Rattle.check_program.specs.declared.front.TheConstants.{MAX_FRONT}
use Rattle.check_program.proofs.front.read_within.Given as goal

abbrev pub invariant-loop-known : goal.invariant-loop-known
invariant-loop-known g l = record {
  same : l.reader.reader.ghost_name ≡ l.initial.reader.reader.ghost_name;
  taken : Consumes (g.R.Read.remaining l.initial.reader.reader.now)
      (g.R.Read.remaining l.reader.reader.now) l.front.items;
  bounded : vec_len l.front ≤ MAX_FRONT;
  known : l.known ≡ true → has_sign l.front.items ≡ true;
}

abbrev pub decreases-loop-known : goal.decreases-loop-known
decreases-loop-known g l = l.reader.reads_left
