-- Which owners are lawful, and the faults of those that are not. All of it is this project's own.
use Rattle.std.specs.Prelude.{◌≡◌, ◌<◌, ◌≤◌, ◌+◌, ◌-◌, ◌*◌, ⊤, ◌⊎◌, ℕ, List, length, All}
use Rattle.tl_types.specs.Fault.{IsFirstOf}
use Rattle.tl_map.specs.Owner.{IsWideSource, IsOf}
use Rattle.tl_map.specs.declared.owners.Owner.{Owner}
use Rattle.tl_map.specs.declared.owners.SourceOwnerFault.{SourceOwnerFault}
use Rattle.tl_map.specs.declared.owners.SourceOwnerFault.TheVariants.{TooMany, Shared, Memory}
use Rattle.tl_map.specs.declared.limits.TheConstants.{MAX_JUDGED_MASTERS, MAX_JUDGED_SOURCES, MAX_WIDE}

-- an owner has a source, not too many, and the last of them is none too large. There are 1 to 65,536 sources, the stride
-- is at least 1, and no wide source is above 65,535.
pub record IsLawfulOwner (owner : Owner) : Type 0 where
  pub some : 0 < owner.count
  pub few : owner.count ≤ MAX_JUDGED_SOURCES
  pub apart : 0 < owner.stride
  pub in_range : owner.first + owner.stride * (owner.count - 1) ≤ MAX_WIDE

-- two masters have this wide source
pub record IsShared (owners : List Owner) (one other wide : ℕ) : Type 0 where
  pub of_one : IsOf owners one wide
  pub of_other : IsOf owners other wide

-- few enough masters, each lawful, and no two of them with a wide source in common. There are at most 64 masters.
pub record AreLawfulOwners (owners : List Owner) : Type 0 where
  pub masters : length owners ≤ MAX_JUDGED_MASTERS
  pub each : All IsLawfulOwner owners
  pub apart : (one other wide : ℕ) → IsShared owners one other wide → one ≡ other

-- none of a master's sources before this one is an earlier master's
abbrev pub SharesNone : List Owner → ℕ → ℕ → Type 0
SharesNone owners master source =
    (own other wide : ℕ) → own < source → IsWideSource owners master own wide → other < master → IsOf owners other wide → ⊥

-- the wide source is the first of this master's that is an earlier master's
pub record IsSharedBy (owners : List Owner) (earlier later wide : ℕ) : Type 0 where
  pub before : earlier < later
  pub is : IsOf owners earlier wide
  pub source : ℕ
  pub at : IsWideSource owners later source wide
  pub first : SharesNone owners later source

-- no two of the masters before this one have a wide source in common
abbrev pub AreApartBelow : List Owner → ℕ → Type 0
AreApartBelow owners masters =
    (one other wide : ℕ) → one < other → other < masters → IsShared owners one other wide → ⊥

-- of the first master that shares a wide source with an earlier one, it is the first wide source that it shares
pub record IsFirstShared (owners : List Owner) (earlier later wide : ℕ) : Type 0 where
  pub here : IsSharedBy owners earlier later wide
  pub masters : AreApartBelow owners later

-- the fault is one of these owners; memory can be refused at any point
abbrev pub HasSourceFault : List Owner → SourceOwnerFault → Type 0
HasSourceFault owners TooMany = (MAX_JUDGED_MASTERS < length owners) ⊎ (All IsLawfulOwner owners → ⊥)
HasSourceFault owners (Shared earlier later wide) = IsFirstShared owners earlier later wide
HasSourceFault owners Memory = ⊤

-- the place of a fault in the order in which faults are tried
abbrev pub source_fault_rank : SourceOwnerFault → ℕ
source_fault_rank TooMany = 1
source_fault_rank (Shared earlier later wide) = 2
source_fault_rank Memory = 3

-- the fault is the first one, in that order, of these owners. A call may also be refused memory before it has looked for
-- a shared source, but never if there are too many masters or sources.
abbrev pub IsFirstSourceOwnerFault : List Owner → SourceOwnerFault → Type 0
IsFirstSourceOwnerFault owners = IsFirstOf (HasSourceFault owners) source_fault_rank
