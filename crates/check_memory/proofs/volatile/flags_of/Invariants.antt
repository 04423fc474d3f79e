-- The flags so far.
use Rattle.std.proofs.Common.{◌≡◌, ℕ, ◌+◌, ◌<◌, false, length, get_or}
use Rattle.check_memory.specs.Partial.{holds}
use Rattle.check_memory.proofs.volatile.flags_of.Given as goal

abbrev pub invariant-loop-place : goal.invariant-loop-place
invariant-loop-place l = record {
  counted : length l.flags ≡ 256;
  flagged : (k : ℕ) → k < l.place → get_or l.flags k false ≡ holds l.volatile (l.address + k) 1;
}
