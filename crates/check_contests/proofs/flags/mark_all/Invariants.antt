use Rattle.std.proofs.Common.{◌≡◌, ◌⊎◌, ℕ, ◌+◌, ◌<◌, ◌≤◌, false, length, take, get_or}
use Rattle.check_contests.specs.Contests.{is_contested}
use Rattle.check_contests.proofs.flags.mark_all.Given as goal

abbrev pub invariant-loop-entry : goal.invariant-loop-entry
invariant-loop-entry l = record {
  counted : length l.flags ≡ length l.initial.flags;
  flagged : (k : ℕ) → k < length l.initial.flags → get_or l.flags k false
      ≡ is_contested l.memory (take l.entry-index l.kept) l.ask (l.first + k);
  outside : (address : ℕ) → (address < l.first) ⊎ (l.first + length l.initial.flags ≤ address)
      → is_contested l.memory (take l.entry-index l.kept) l.ask address ≡ false;
}
