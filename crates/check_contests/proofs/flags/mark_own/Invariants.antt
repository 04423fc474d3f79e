use Rattle.std.proofs.Common.{◌≡◌, ◌+◌, length}
use Rattle.check_contests.specs.Writes.{writes}
use Rattle.check_contests.proofs.Marks.{Marked}
use Rattle.check_contests.proofs.flags.mark_own.Given as goal

abbrev pub invariant-loop-place : goal.invariant-loop-place
invariant-loop-place l = record {
  marked : Marked (λ j. writes l.ask.op l.ask (l.ask.address + j)) l.initial.flags l.flags l.start l.place;
  long : length l.flags ≡ length l.initial.flags;
}
