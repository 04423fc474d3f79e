use Rattle.std.proofs.Common.{◌≡◌, ℕ, ◌<◌, ◌≤◌, ◌⊎◌, length}
use Rattle.tl_types.specs.Bytes.{bit_in}
use Rattle.check_cells.specs.Bit.{known_bit}
use Rattle.check_cells.proofs.marks.mark_bits.Given as goal

-- the bits from the start up to here are so, and all else is as it was
abbrev pub invariant-loop-place : goal.invariant-loop-place
invariant-loop-place l =
    (length l.bits ≡ length l.initial.bits)
    × ((place : ℕ) → l.start ≤ place → place < l.place → bit_in l.bits place ≡ known_bit l.mark)
    × ((place : ℕ) → (place < l.start) ⊎ (l.place ≤ place) → bit_in l.bits place ≡ bit_in l.initial.bits place)
