use Rattle.std.proofs.Common.{◌≡◌, ℕ, ◌+◌, ◌<◌, false, length, get_or}
use Rattle.check_contests.specs.Writes.{writes}
use Rattle.check_contests.proofs.cut.mark_written.Given as goal

abbrev pub invariant-loop-place : goal.invariant-loop-place
invariant-loop-place l = record {
  long : length l.flags ≡ length l.initial.flags;
  done : (start k : ℕ) → k < l.place
      → get_or l.flags k false ≡ writes l.ask.op (record l.ask { address = start }) (start + k);
}
