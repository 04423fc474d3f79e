-- Which wide source is whose. The standard leaves sources to the system; this is what system files can say.
use Rattle.std.specs.Prelude.{◌≡◌, ◌<◌, ◌+◌, ◌*◌, ℕ, List, slice_get, IsSomeAnd}
use Rattle.tl_map.specs.declared.owners.Owner.{Owner}

-- the owner's source of this number has this wide source
pub record Widens (owner : Owner) (source wide : ℕ) : Type 0 where
  pub has : source < owner.count
  pub at : wide ≡ owner.first + owner.stride * source

-- the wide source is that of the master's source; the master's number is its place in the list
abbrev pub IsWideSource : List Owner → ℕ → ℕ → ℕ → Type 0
IsWideSource owners master source wide = IsSomeAnd (slice_get owners master) (λ owner. Widens owner source wide)

-- the wide source is one of the master
abbrev pub IsOf : List Owner → ℕ → ℕ → Type 0
IsOf owners master wide = (source : ℕ) × IsWideSource owners master source wide

-- the wide source is somebody's
abbrev pub IsOwned : List Owner → ℕ → Type 0
IsOwned owners wide = (master : ℕ) × IsOf owners master wide
