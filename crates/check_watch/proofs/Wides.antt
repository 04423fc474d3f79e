-- Wide sources at a port's link, and as a function.
use Rattle.std.proofs.Common.{◌≡◌, ◌<◌, ℕ, ◌+◌, ◌*◌, ◌↔◌, List, Option, Some, None, slice_get, sym, refl}
use Rattle.std.specs.Prelude.{IfSome, IsSomeAnd}
use Rattle.tl_map.specs.declared.owners.Owner.{Owner}
use Rattle.tl_map.specs.Owner.{IsOwned, IsWideSource, Widens}

-- a wide source that somebody has is that of a port's link
pub owned_wide : (owners : List Owner) (source : ℕ) → IsOwned owners source
    → (wide : ℕ) → (◌≡◌ {A = Option ℕ} (Some source) (Some wide)) ↔ ((wide ≡ source) × IsOwned owners source)
owned_wide owners source owned wide = (λ is. (cc, owned), λ both. rw both.0 refl)

pub unowned : (owners : List Owner) (source : ℕ) → (IsOwned owners source → ⊥)
    → (wide : ℕ) → (◌≡◌ {A = Option ℕ} None (Some wide)) ↔ ((wide ≡ source) × IsOwned owners source)
unowned owners source none wide = (λ no. absurd (cc), λ both. absurd (none both.1))

-- the wide source of a master's source, and 0 for a master that is not there
abbrev wide_in : Option Owner → ℕ → ℕ
wide_in None source = 0
wide_in (Some owner) source = owner.first + owner.stride * source

abbrev pub wide_by : List Owner → ℕ → ℕ → ℕ
wide_by owners master source = wide_in (slice_get owners master) source

pub wide_by_is : (owners : List Owner) (master source wide : ℕ) → IsWideSource owners master source wide
    → wide_by owners master source ≡ wide
wide_by_is owners master source wide is = go (slice_get owners master) is
  where
    go : (o : Option Owner) → IsSomeAnd o (λ owner. Widens owner source wide) → wide_in o source ≡ wide
    go None none = absurd none
    go (Some owner) widens = sym widens.at

-- what is answered is below a bound, if what is said of it is
pub within : (o : Option ℕ) (bound : ℕ) (P : ℕ → Type 0) → ((wide : ℕ) → o ≡ Some wide → P wide)
    → ((wide : ℕ) → P wide → wide < bound) → IfSome o (λ wide. wide < bound)
within None bound P says below = tt
within (Some wide) bound P says below = below wide (says wide refl)
