-- What follows from the definitions, said in other words.
use Rattle.std.specs.Prelude.{◌≡◌, ℕ, ◌+◌, ◌-◌, ◌*◌, ◌^◌, ◌<◌, ◌≤◌, ◌⊎◌, List, length, sum_by, slice_get}
use Rattle.std.specs.List.{enumerate_from}
use Rattle.tl_ops.specs.Number.{number}
use Rattle.tl_ops.specs.Store.{with_window}

-- the value of bytes is the sum of byte k times 256 ^ k
abbrev pub NumberIsSum : Type 0
NumberIsSum =
    (bytes : List ℕ) → number bytes ≡ sum_by (λ place. place.1 * 256 ^ place.0) (enumerate_from 0 bytes)

-- a replaced window has the new bytes, and every other place keeps its byte
pub record WindowByPlaces (bytes : List ℕ) (start : ℕ) (new : List ℕ) : Type 0 where
  pub inside : (k : ℕ) → start ≤ k → k < start + length new
      → slice_get (with_window bytes start new) k ≡ slice_get new (k - start)
  pub outside : (k : ℕ) → (k < start) ⊎ (start + length new ≤ k)
      → slice_get (with_window bytes start new) k ≡ slice_get bytes k
