use Rattle.std.proofs.Common.{◌≡◌, ◌+◌, length}
use Rattle.check_contests.proofs.Marks.{Marked, Met, shared}
use Rattle.check_contests.proofs.flags.mark_shared.Given as goal

abbrev pub invariant-loop-place : goal.invariant-loop-place
invariant-loop-place l = record {
  marked : Marked (λ j. shared l.ask l.other (l.ask.address + j)) l.initial.flags l.flags l.start l.place;
  met : Met (λ j. shared l.ask l.other (l.ask.address + j)) l.place l.met;
  long : length l.flags ≡ length l.initial.flags;
}
