use Rattle.std.proofs.Common.{◌≡◌, ◌*◌, ◌<◌, ℕ, length, slice_index}
use Rattle.tl_types.specs.declared.bytes.TheConstants.{MAX_WORDS}
use Rattle.tl_types.proofs.Masks.{AreFirst}
use Rattle.tl_types.proofs.bytes.given_words.Given as goal

-- the words so far are all ones
abbrev pub invariant-loop-word : goal.invariant-loop-word
invariant-loop-word l = record {
  first : AreFirst l.masks (8 * l.word);
  counted : length l.masks ≡ MAX_WORDS;
  small : (word : ℕ) → slice_index l.masks word < 256;
}
