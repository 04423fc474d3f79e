-- How checks of a system file follow one another: the first that fails is the answer. This project's own.
use Rattle.std.specs.Prelude.{◌≡◌, ◌≢◌, Result, Ok, Err, MatchResult}
use Rattle.tl_map.specs.declared.address_map.AddressMapFault.{AddressMapFault}
use Rattle.tl_map.specs.declared.address_map.AddressMapFault.TheVariants.{Memory as MapMemory}
use Rattle.tl_map.specs.declared.owners.SourceOwnerFault.{SourceOwnerFault}
use Rattle.tl_map.specs.declared.owners.SourceOwnerFault.TheVariants.{Memory as SourceMemory}
use Rattle.check_keys.specs.declared.fault.SystemFault.{SystemFault}
use Rattle.check_keys.specs.declared.fault.SystemFault.TheVariants.{Map, Sources, Memory}

-- a call answers what the definition gives, unless memory runs out
abbrev pub Gives : {X Y : Type 0} → (X → Y) → Result X SystemFault → Result Y SystemFault → Type 0
Gives view result read = MatchResult result (λ x. read ≡ Ok (view x)) (λ e. e ≢ Memory → read ≡ Err e)

-- a map's fault as a system's: want of memory is the system's own
abbrev pub map_fault : AddressMapFault → SystemFault
map_fault MapMemory = Memory
map_fault fault = Map fault

-- a fault of the sources as a system's
abbrev pub source_fault : SourceOwnerFault → SystemFault
source_fault SourceMemory = Memory
source_fault fault = Sources fault
