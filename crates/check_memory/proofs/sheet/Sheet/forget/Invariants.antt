use Rattle.std.proofs.Common.{◌≡◌, ℕ, ◌+◌, ◌<◌, ◌≤◌, ◌⊎◌, false, length, get_or, None}
use Rattle.check_memory.specs.Cells.{forgotten_cell}
use Rattle.check_memory.proofs.sheet.Sheet.forget.Given as goal

-- the bytes so far are forgotten if they are flagged, and all others are as they were
abbrev pub invariant-loop-k : goal.invariant-loop-k
invariant-loop-k l =
    (length l.self ≡ length l.initial.self)
    × ((j : ℕ) → j < l.k → get_or l.self (l.start + j) None
    ≡ forgotten_cell (get_or l.flags j false) (get_or l.initial.self (l.start + j) None))
    × ((place : ℕ) → (place < l.start) ⊎ (l.start + l.k ≤ place)
    → get_or l.self place None ≡ get_or l.initial.self place None)
