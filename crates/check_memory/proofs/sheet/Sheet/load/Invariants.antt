use Rattle.std.proofs.Common.{◌≡◌, ℕ, ◌+◌, ◌<◌, ◌≤◌, ◌⊎◌, length, get_or, Some, None}
use Rattle.check_memory.proofs.sheet.Sheet.load.Given as goal

-- the bytes so far are written, and all others are as they were
abbrev pub invariant-loop-k : goal.invariant-loop-k
invariant-loop-k l =
    (length l.self ≡ length l.initial.self)
    × ((j : ℕ) → j < l.k → get_or l.self (l.start + j) None ≡ Some (get_or l.bytes j 0))
    × ((place : ℕ) → (place < l.start) ⊎ (l.start + l.k ≤ place)
    → get_or l.self place None ≡ get_or l.initial.self place None)
