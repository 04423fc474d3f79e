use Rattle.std.proofs.Common.{◌≡◌, ℕ, ◌<◌, length, take, replicate, slice_index}
use Rattle.check_cells.specs.declared.cells.TheConstants.{MAX_WORDS}
use Rattle.check_cells.proofs.cells.Cells.fill.Given as goal

-- the words so far are zero, and their masks are this one
abbrev pub invariant-loop-word : goal.invariant-loop-word
invariant-loop-word l =
    (length l.self-inside.words ≡ MAX_WORDS) × (length l.self-inside.masks ≡ MAX_WORDS)
    × (take l.word l.self-inside.words ≡ replicate l.word 0)
    × ((i : ℕ) → i < l.word → slice_index l.self-inside.masks i ≡ l.mask)
