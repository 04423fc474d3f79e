-- Whether the masters that ports list are told apart by their sources at the ports' links. The standard leaves sources to the
-- system. Of masters it is known how many sources each has. This project's own.
use Rattle.std.specs.Prelude.{◌≡◌, ◌≢◌, ℕ, ◌<◌, ◌≤◌, ◌⊎◌, List, map, Option, Some, slice_get, slice_index_or, unwrap_or}
use Rattle.tl_map.specs.Owner.{IsOwned}
use Rattle.tl_map.specs.Owners.{AreLawfulOwners, IsFirstSourceOwnerFault}
use Rattle.tl_map.specs.declared.limits.TheConstants.{MAX_WIDE}
use Rattle.tl_map.specs.declared.owners.Owner.{Owner}
use Rattle.tl_map.specs.declared.owners.SourceOwnerFault.{SourceOwnerFault}
use Rattle.tl_map.specs.declared.owners.SourceOwnerFault.TheVariants.{TooMany, Shared, Memory}
use Rattle.check_keys.specs.declared.fault.SystemFault.{SystemFault}
use Rattle.check_keys.specs.declared.fault.SystemFault.TheVariants.{PortSources, Memory as WithoutMemory}
use Rattle.check_description.specs.Placed.{master_numbers}
use Rattle.check_description.specs.declared.placed.PlacedMaster.{PlacedMaster}

-- the sources of a master at the link of a port that lists it: as many as it has
abbrev pub owner_at : List ℕ → PlacedMaster → Owner
owner_at counts placed = record {
  first = placed.first;
  count = unwrap_or (slice_get counts placed.master) 0;
  stride = placed.stride;
}

-- the sources of all masters of a list at the port's link, in the order of the list.
abbrev pub owners_at : List ℕ → List PlacedMaster → List Owner
owners_at counts placed = map (owner_at counts) placed

-- a wide source is nobody's
pub record IsNobodys (owners : List Owner) (wide : ℕ) : Type 0 where
  pub few : wide ≤ MAX_WIDE
  pub free : IsOwned owners wide → ⊥

-- the masters of a list share no source at the port's link, and some wide source of the system is nobody's: a source that is
-- nobody's at the link stands for that
pub record AreApart (counts : List ℕ) (owners : List Owner) (placed : List PlacedMaster) : Type 0 where
  pub lawful : AreLawfulOwners (owners_at counts placed)
  pub free : (wide : ℕ) × IsNobodys owners wide

-- the same of the list of a port, if it has one
abbrev pub AreApartAt : List ℕ → List Owner → List (Option (List PlacedMaster)) → ℕ → Type 0
AreApartAt counts owners lists port =
    (placed : List PlacedMaster) → slice_get lists port ≡ Some (Some placed) → AreApart counts owners placed

-- a wide source is nobody's, if some port lists masters
abbrev pub IsFreeFor : List Owner → List (Option (List PlacedMaster)) → ℕ → Type 0
IsFreeFor owners lists wide =
    (port : ℕ) (placed : List PlacedMaster) → slice_get lists port ≡ Some (Some placed) → IsNobodys owners wide

-- ---- faults

-- the number of the master at a place of a list
abbrev pub place_number : List PlacedMaster → ℕ → ℕ
place_number placed place = slice_index_or (master_numbers placed) place 0

-- the fault of a list, which names places, with the numbers of the masters there
abbrev pub named : List PlacedMaster → SourceOwnerFault → SourceOwnerFault
named placed TooMany = TooMany
named placed (Shared earlier later wide) = Shared (place_number placed earlier) (place_number placed later) wide
named placed Memory = Memory

-- the first fault of the sources at a port's link, by the masters that have it
pub record IsOwnFault (counts : List ℕ) (placed : List PlacedMaster) (told : SourceOwnerFault) : Type 0 where
  pub fault : SourceOwnerFault
  pub known : told ≢ Memory
  pub first : IsFirstSourceOwnerFault (owners_at counts placed) fault
  pub names : told ≡ named placed fault

-- the first fault of a list: that no wide source of the system is nobody's, or else one of its own
abbrev pub IsListFault : List ℕ → List Owner → List PlacedMaster → SourceOwnerFault → Type 0
IsListFault counts owners placed told =
    (((wide : ℕ) → IsNobodys owners wide → ⊥) × (told ≡ TooMany))
    ⊎ (((wide : ℕ) × IsNobodys owners wide) × IsOwnFault counts placed told)

-- the fault is that of the list of a port, and those of the ports before it have none
pub record IsFirstListFault (counts : List ℕ) (owners : List Owner) (lists : List (Option (List PlacedMaster))) (port : ℕ)
    (told : SourceOwnerFault) : Type 0 where
  pub placed : List PlacedMaster
  pub here : slice_get lists port ≡ Some (Some placed)
  pub is : IsListFault counts owners placed told
  pub before : (other : ℕ) → other < port → AreApartAt counts owners lists other

-- the fault of the list of a port as a system's: want of memory is the system's own
abbrev pub fault_at : ℕ → SourceOwnerFault → SystemFault
fault_at port Memory = WithoutMemory
fault_at port fault = PortSources port fault

-- the fault is one of the list of a port
abbrev pub IsOfLists : (ℕ → SourceOwnerFault → Type 0) → SystemFault → Type 0
IsOfLists P (PortSources port fault) = P port fault
IsOfLists P fault = ⊥
