use Rattle.std.proofs.Common.{◌≡◌, ◌⊎◌, ℕ, ◌<◌, ◌≤◌, true, false, length, get_or}
use Rattle.check_contests.proofs.flags.mark_atomic.Given as goal

abbrev pub invariant-loop-place : goal.invariant-loop-place
invariant-loop-place l = record {
  flagged : (k : ℕ) → l.start ≤ k → k < l.place → get_or l.flags k false ≡ true;
  long : length l.flags ≡ length l.initial.flags;
  kept : (k : ℕ) → (k < l.start) ⊎ (l.place ≤ k) → get_or l.flags k false ≡ get_or l.initial.flags k false;
}
