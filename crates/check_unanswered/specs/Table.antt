-- A table of the requests in flight of each wide source. This project's own.
use Rattle.std.specs.Prelude.{◌≡◌, ℕ, ◌≤◌, List, [], ◌∷◌, length, Contains, Option, Some, None, slice_get, unwrap_or}
use Rattle.check_rows.specs.declared.request.Left.{Left}
use Rattle.check_rows.specs.declared.request.Open.{Open}

-- the request in flight of a wide source
abbrev pub open_at : List (Option Open) → ℕ → Option Open
open_at table wide = unwrap_or (slice_get table wide) None

-- all requests in flight
abbrev pub opens : List (Option Open) → List Open
opens [] = []
opens (None ∷ rest) = opens rest
opens (Some ask ∷ rest) = ask ∷ opens rest

-- the request is one of these, and none of them began before it; if there is none, there are none
abbrev pub IsOldestOf : List Open → Option Open → Type 0
IsOldestOf opens None = opens ≡ []
IsOldestOf opens (Some first) =
    Contains opens first × ((ask : Open) → Contains opens ask → first.began.place ≤ ask.began.place)

-- so many requests are in flight, and this is the one that began first
pub record IsEarliestOf (table : List (Option Open)) (left : Left) : Type 0 where
  pub count : left.requests ≡ length (opens table)
  pub oldest : IsOldestOf (opens table) (Some left.first)
