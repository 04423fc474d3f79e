-- The first fault of owners that make no sources.
use Rattle.std.proofs.Common.{◌<◌, ◌≤◌, ℕ, inl, inr, ◌⊎◌, List, length, All, arith}
use Rattle.tl_map.specs.Owners.{AreApartBelow, HasSourceFault, IsFirstSourceOwnerFault, IsLawfulOwner, IsSharedBy, source_fault_rank}
use Rattle.tl_map.specs.declared.limits.TheConstants.{MAX_JUDGED_MASTERS}
use Rattle.tl_map.specs.declared.owners.Owner.{Owner}
use Rattle.tl_map.specs.declared.owners.SourceOwnerFault.{SourceOwnerFault}
use Rattle.tl_map.specs.declared.owners.SourceOwnerFault.TheVariants.{TooMany, Shared, Memory}

-- few lawful owners are not too many
not_too_many : (owners : List Owner) → length owners ≤ MAX_JUDGED_MASTERS → All IsLawfulOwner owners
    → HasSourceFault owners TooMany → ⊥
not_too_many owners few lawful (inl many) = omega (arith, few, many)
not_too_many owners few lawful (inr wrong) = wrong lawful

pub too_many : (owners : List Owner) → ((MAX_JUDGED_MASTERS < length owners) ⊎ (All IsLawfulOwner owners → ⊥))
    → IsFirstSourceOwnerFault owners TooMany
too_many owners has = record { applies = has; first = first } where
  first : (other : SourceOwnerFault) → source_fault_rank other < 1 → HasSourceFault owners other → ⊥
  first TooMany before fault = omega (arith, before)
  first (Shared earlier later wide) before fault = omega (arith, before)
  first Memory before fault = omega (arith, before)

pub first_shared : (owners : List Owner) → length owners ≤ MAX_JUDGED_MASTERS → All IsLawfulOwner owners
    → (earlier later wide : ℕ) → IsSharedBy owners earlier later wide → AreApartBelow owners later
    → IsFirstSourceOwnerFault owners (Shared earlier later wide)
first_shared owners few lawful earlier later wide here masters = record {
  applies = record { here = here; masters = masters };
  first = first;
} where
  first : (other : SourceOwnerFault) → source_fault_rank other < 2 → HasSourceFault owners other → ⊥
  first TooMany before fault = not_too_many owners few lawful fault
  first (Shared one other shared) before fault = omega (arith, before)
  first Memory before fault = omega (arith, before)
