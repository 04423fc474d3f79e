use Rattle.std.proofs.Common.{◌≡◌, ◌⊎◌, ℕ, ◌*◌, ◌<◌, ◌≤◌, length}
use Rattle.tl_types.specs.Bytes.{bit_in}
use Rattle.check_memory.specs.Place.{known_bit}
use Rattle.check_memory.proofs.sheet.mark_words.Given as goal

-- the words so far are marked, and all others are as they were
abbrev pub invariant-loop-word : goal.invariant-loop-word
invariant-loop-word l = record {
  inside : (place : ℕ) → 8 * l.first ≤ place → place < 8 * l.word → bit_in l.masks place ≡ known_bit l.known;
  outside : (place : ℕ) → (place < 8 * l.first) ⊎ (8 * l.word ≤ place)
      → bit_in l.masks place ≡ bit_in l.initial.masks place;
  counted : length l.masks ≡ length l.initial.masks;
}
