-- Room for the bytes of a message, in words and their masks.
use Rattle.std.specs.Prelude.{◌≡◌, ℕ, ◌≤◌, List, length}
use Rattle.tl_types.specs.declared.limits.TheConstants.{MAX_BYTES}
use Rattle.check_cells.specs.declared.cells.TheConstants.{MAX_WORDS}

-- there are as many words and masks as a message has at most, and no more bytes
pub record IsRoom (words masks : List ℕ) (len : ℕ) : Type 0 where
  pub words_counted : length words ≡ MAX_WORDS
  pub masks_counted : length masks ≡ MAX_WORDS
  pub in_limit : len ≤ MAX_BYTES
