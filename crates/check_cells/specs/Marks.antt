-- Marks of the bytes of a captured message: which of them are spoiled. It is this project's own.
use Rattle.std.specs.Prelude.{◌≡◌, ℕ, ◌≤◌, ◌==◌, Bool, false, List, length, map}
use Rattle.std.specs.List.{range_with_len}
use Rattle.tl_types.specs.Bytes.{bit_in}
use Rattle.tl_types.specs.declared.limits.TheConstants.{MAX_BYTES}
use Rattle.check_cells.specs.declared.cells.TheConstants.{MAX_WORDS}

-- the marks of so many bytes, as bits of masks of words
abbrev pub marks_in : List ℕ → ℕ → List Bool
marks_in bits len = map (λ place. bit_in bits place == 1) (range_with_len 0 len)

-- there are as many masks as a message has words at most, and no more marks than bytes; if none is set, no bit is
pub record AreMarks (any : Bool) (bits : List ℕ) (len : ℕ) : Type 0 where
  pub counted : length bits ≡ MAX_WORDS
  pub in_limit : len ≤ MAX_BYTES
  pub unset : any ≡ false → (place : ℕ) → bit_in bits place ≡ 0
