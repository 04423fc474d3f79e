use Rattle.std.proofs.Common.{◌≡◌, ℕ, ◌+◌, ◌*◌, ◌<◌, ◌≤◌, ◌⊎◌, get_or, None}
use Rattle.tl_types.specs.Bytes.{bit_in}
use Rattle.check_cells.specs.Bit.{given_bit}
use Rattle.check_cells.proofs.masks.give.Given as goal

-- the words so far are given, and all else is as it was
abbrev pub invariant-loop-k : goal.invariant-loop-k
invariant-loop-k l =
    ((j : ℕ) → j < 8 * l.k → bit_in l.masks (l.start + j)
    ≡ given_bit (bit_in l.initial.masks (l.start + j)) (get_or l.given j None))
    × ((place : ℕ) → (place < l.start) ⊎ (l.start + 8 * l.k ≤ place)
    → bit_in l.masks place ≡ bit_in l.initial.masks place)
