use Rattle.std.proofs.Common.{◌≡◌, ℕ, ◌+◌, ◌<◌, ◌≤◌, ◌⊎◌, length, get_or, None}
use Rattle.check_memory.specs.Cells.{clear_cell}
use Rattle.check_memory.proofs.sheet.Sheet.clear.Given as goal

-- the bytes so far are cleared, and all others are as they were
abbrev pub invariant-loop-k : goal.invariant-loop-k
invariant-loop-k l =
    (length l.self ≡ length l.initial.self)
    × ((j : ℕ) → j < l.k → get_or l.self (l.start + j) None
    ≡ clear_cell (get_or l.initial.self (l.start + j) None) (get_or l.given j None))
    × ((place : ℕ) → (place < l.start) ⊎ (l.start + l.k ≤ place)
    → get_or l.self place None ≡ get_or l.initial.self place None)
