-- What was taken from a reader and written to a writer, where they tell their bytes. This project's own.
use Rattle.std.specs.Prelude.{◌≡◌, ◌≢◌, ℕ, ◌<◌, ◌≤◌, ◌++◌, List, [], length, Option}
use Rattle.std.specs.Io.KnownBytes.{Appends, Consumes, IsAtEnd}

-- the reader gave these bytes, at most `limit` of them; if there are fewer, it had no others
pub record ReadsUpTo (limit : ℕ) (old new : Option (List ℕ)) (bytes : List ℕ) : Type 0 where
  pub taken : Consumes old new bytes
  pub bounded : length bytes ≤ limit
  pub whole : length bytes < limit → IsAtEnd new

-- the reader gave these bytes, and had no others
pub record ReadsAll (old new : Option (List ℕ)) (bytes : List ℕ) : Type 0 where
  pub taken : Consumes old new bytes
  pub whole : IsAtEnd new

-- the reader gave at most `limit` bytes
pub record TakesUpTo (limit : ℕ) (old new : Option (List ℕ)) : Type 0 where
  pub bytes : List ℕ
  pub taken : Consumes old new bytes
  pub bounded : length bytes ≤ limit

-- a front of these bytes was written, but not all of them, and nothing else
pub record AppendsPart (old new : Option (List ℕ)) (bytes : List ℕ) : Type 0 where
  pub front : List ℕ
  pub rest : List ℕ
  pub is : bytes ≡ front ++ rest
  pub short : rest ≢ []
  pub written : Appends old new front
