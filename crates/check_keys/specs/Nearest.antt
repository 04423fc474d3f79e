-- The name that is nearest to a name. How far two names are apart is by the definition of the crate `strsim`;
-- which of several is named is this project's own.
use Rattle.std.specs.Prelude.{ℕ, Bool, true, List, [], ◌∷◌, length, Option, None, Some, nat_eq, nat_lt, if◌then◌else◌}
use Rattle.strsim.specs.Edits.{levenshtein_row}

-- how many bytes have to be changed, put in or left out
unfoldable pub distance : List ℕ → List ℕ → ℕ
distance name other = levenshtein_row nat_eq name other (length other)

-- the first, if the second is no nearer
abbrev pub nearer : List ℕ → List ℕ → Option (List ℕ) → Option (List ℕ)
nearer name first None = Some first
nearer name first (Some second) = if nat_lt (distance name second) (distance name first) then Some second else Some first

-- the first of the nearest names, if there are names
abbrev pub nearest : List ℕ → List (List ℕ) → Option (List ℕ)
nearest name [] = None
nearest name (other ∷ others) = nearer name other (nearest name others)

-- a distance is below another, or there is no other
abbrev pub is_below : ℕ → Option ℕ → Bool
is_below count None = true
is_below count (Some other) = nat_lt count other
