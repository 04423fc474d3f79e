use Rattle.std.proofs.Common.{◌≡◌, ◌*◌, ◌<◌, ℕ, length, slice_index}
use Rattle.tl_types.specs.declared.bytes.TheConstants.{MAX_WORDS}
use Rattle.tl_types.proofs.Masks.{AreFlagged}
use Rattle.tl_types.proofs.bytes.flagged_words.Given as goal

-- the words so far have the bits of their flags, and the others none
abbrev pub invariant-loop-word : goal.invariant-loop-word
invariant-loop-word l = record {
  flagged : AreFlagged l.masks l.flags (8 * l.word);
  counted : length l.masks ≡ MAX_WORDS;
  small : (word : ℕ) → slice_index l.masks word < 256;
}
