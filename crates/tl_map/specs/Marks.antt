-- What a judge keeps of the sources: for each wide source up to the largest the master that has it. This project's own.
use Rattle.std.specs.Prelude.{◌≡◌, ◌<◌, ◌≤◌, ◌+◌, ◌↔◌, ◌⊎◌, ℕ, List, length, Option, Some, slice_get}
use Rattle.tl_map.specs.Owner.{IsOf, IsOwned, IsWideSource}
use Rattle.tl_map.specs.Owners.{AreLawfulOwners}
use Rattle.tl_map.specs.declared.limits.TheConstants.{MAX_WIDE}
use Rattle.tl_map.specs.declared.owners.Owner.{Owner}

-- the wide source is one of the masters before this one, or one of its own sources before this one
abbrev pub IsBefore : List Owner → ℕ → ℕ → ℕ → ℕ → Type 0
IsBefore owners masters source master wide =
    ((master < masters) × IsOf owners master wide)
    ⊎ ((master ≡ masters) × ((own : ℕ) × (own < source) × IsWideSource owners masters own wide))

-- each wide source that stands before has the mark of its master, and no other has a mark
pub record IsMarkedUpTo (owners : List Owner) (masters source : ℕ) (marks : List (Option ℕ)) : Type 0 where
  pub each : (wide master : ℕ) → (slice_get marks wide ≡ Some (Some master)) ↔ IsBefore owners masters source master wide

-- each wide source of the masters has the mark of its master, and no other has one
abbrev pub AreMarked : List Owner → List (Option ℕ) → Type 0
AreMarked owners marks = (wide master : ℕ) → (slice_get marks wide ≡ Some (Some master)) ↔ IsOf owners master wide

-- there is a mark for each wide source up to the largest, and no more
pub record HasRoomFor (owners : List Owner) (marks : ℕ) : Type 0 where
  pub above : (wide : ℕ) → IsOwned owners wide → wide < marks
  pub least : (bound : ℕ) → ((wide : ℕ) → IsOwned owners wide → wide < bound) → marks ≤ bound

-- what is kept
pub record AreKept (owners : List Owner) (marks : List (Option ℕ)) : Type 0 where
  pub lawful : AreLawfulOwners owners
  pub room : HasRoomFor owners (length marks)
  pub few : length marks ≤ MAX_WIDE + 1
  pub marked : AreMarked owners marks
