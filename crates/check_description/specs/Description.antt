-- Which description the parts of a file make, and the first fault of parts that make none. This project's own.
use Rattle.std.specs.Prelude.{◌≡◌, ◌≢◌, ℕ, Bool, List, map, Option, Vec}
use Rattle.std.specs.Global.{Global}
use Rattle.tl_map.specs.declared.range.Range.{Range}
use Rattle.tl_map.specs.Map.{IsFirstAddressMapFault, IsLawfulAddressMap}
use Rattle.tl_map.specs.Owners.{AreLawfulOwners}
use Rattle.tl_map.specs.declared.address_map.AddressMapFault.{AddressMapFault}
use Rattle.tl_map.specs.declared.address_map.AddressMapFault.TheVariants.{Memory as MapMemory}
use Rattle.tl_map.specs.declared.owners.Owner.{Owner}
use Rattle.tl_map.specs.declared.owners.SourceOwnerFault.{SourceOwnerFault}
use Rattle.tl_map.specs.declared.owners.SourceOwnerFault.TheVariants.{Memory as SourceMemory}
use Rattle.check_beats.specs.declared.rules.LinkRules.{LinkRules}
use Rattle.check_keys.specs.declared.fault.SystemFault.{SystemFault}
use Rattle.check_keys.specs.declared.fault.SystemFault.TheVariants.{Map, PortSources, Sources}
use Rattle.check_description.specs.Port.{Port, port_view}
use Rattle.check_description.specs.declared.port.Port as code_port
use Rattle.check_description.specs.File.{Parts}
use Rattle.check_description.specs.Master.{HasOwners, IsFirstOwnerFault, Master, counts_of, master_view}
use Rattle.check_description.specs.Apart.{AreApartAt, IsFirstListFault, IsFreeFor}
use Rattle.check_description.specs.Placed.{lists_view, paths_view}
use Rattle.check_description.specs.declared.placed.PlacedMaster.{PlacedMaster}
use Rattle.check_description.specs.declared.masters.Master as code_master

-- the rules of the links, whether there may be resets of the whole system, the ports, the masters as the file has them, which
-- wide sources are each master's, the masters that each port lists, if it lists any, to which ports each master has a path, and
-- a wide source that is nobody's, if some port lists masters
pub record Description : Type 0 where
  pub rules : LinkRules
  pub resets : Bool
  pub ports : List Port
  pub masters : List Master
  pub owners : List Owner
  pub lists : List (Option (List PlacedMaster))
  pub paths : List (Option (List Bool))
  pub nobody : ℕ

-- the ranges of each port
abbrev pub ranges_of : List Port → List (List Range)
ranges_of ports = map (λ (port : Port). port.ranges) ports

-- the description of these parts
abbrev pub described : LinkRules → Bool → List code_port.Port → List code_master.Master → List Owner
    → Vec (Option (Vec PlacedMaster Global)) Global → Vec (Option (Vec Bool Global)) Global → ℕ → Description
described rules resets ports masters owners lists paths nobody = record {
  rules = rules;
  resets = resets;
  ports = map port_view ports;
  masters = map master_view masters;
  owners = owners;
  lists = lists_view lists;
  paths = paths_view paths;
  nobody = nobody;
}

-- ---- what parts make

-- the parts make this description: their ranges make a map, the owners are those of the masters and share nothing, the masters
-- that a port lists are told apart at its link, and the rest is as it was read
pub record Makes (parts : Parts) (description : Description) : Type 0 where
  pub map : IsLawfulAddressMap (ranges_of parts.ports)
  pub owners : HasOwners parts.masters description.owners
  pub sources : AreLawfulOwners description.owners
  pub rules : description.rules ≡ parts.rules
  pub resets : description.resets ≡ parts.resets
  pub ports : description.ports ≡ parts.ports
  pub masters : description.masters ≡ parts.masters
  pub lists : description.lists ≡ parts.lists
  pub paths : description.paths ≡ parts.paths
  pub apart : (port : ℕ) → AreApartAt (counts_of parts.masters) description.owners parts.lists port
  pub free : IsFreeFor description.owners parts.lists description.nobody

-- the fault is one of the map, and not want of memory
abbrev pub IsOfMap : (AddressMapFault → Type 0) → SystemFault → Type 0
IsOfMap P (Map fault) = (fault ≢ MapMemory) × P fault
IsOfMap P fault = ⊥

-- the fault is one of the sources, and not want of memory
abbrev pub IsOfSources : (SourceOwnerFault → Type 0) → SystemFault → Type 0
IsOfSources P (Sources fault) = (fault ≢ SourceMemory) × P fault
IsOfSources P fault = ⊥

-- the first fault of parts that make no description: that of the ranges, or if these make a map, that of the sources, or if the
-- masters have theirs, that of the list of a port
abbrev pub IsFirstFaultOf : Parts → SystemFault → Type 0
IsFirstFaultOf parts (Map fault) = (fault ≢ MapMemory) × IsFirstAddressMapFault (ranges_of parts.ports) fault
IsFirstFaultOf parts (Sources fault) =
    IsLawfulAddressMap (ranges_of parts.ports) × (fault ≢ SourceMemory) × IsFirstOwnerFault parts.masters fault
IsFirstFaultOf parts (PortSources port fault) =
    IsLawfulAddressMap (ranges_of parts.ports)
    × ((owners : List Owner) × HasOwners parts.masters owners × AreLawfulOwners owners
    × IsFirstListFault (counts_of parts.masters) owners parts.lists port fault)
IsFirstFaultOf parts fault = ⊥
