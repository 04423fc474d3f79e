-- What a text call writes. This project's own.
use Rattle.std.specs.Prelude.{◌≡◌, ◌≢◌, ◌-◌, ◌<◌, ℕ, List, [], length, min, take, Some, slice_get}

-- so many bytes were written, and a zero byte after them, if there is room for that: of no room there is nothing
pub record IsWritten (old new : List ℕ) (count : ℕ) : Type 0 where
  pub same : length new ≡ length old
  pub none : old ≡ [] → count ≡ 0
  pub fits : old ≢ [] → count < length old
  pub ends : old ≢ [] → slice_get new count ≡ Some 0

-- these are bytes of the text, as many of its first as fit
pub record IsTextOf (text old new : List ℕ) (count : ℕ) : Type 0 where
  pub counted : count ≡ min (length text) (length old - 1)
  pub bytes : take count new ≡ take count text
