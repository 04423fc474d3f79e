-- How checks of a script follow one another: the first that fails is the answer. This project's own.
use Rattle.std.specs.Prelude.{◌≡◌, ◌≢◌, Result, Ok, Err, MatchResult}
use Rattle.tl_script.specs.declared.map.MapFault.{MapFault}
use Rattle.tl_script.specs.declared.map.MapFault.TheVariants.{Memory as MapMemory}
use Rattle.tl_script.specs.declared.sources.SourceFault.{SourceFault}
use Rattle.tl_script.specs.declared.sources.SourceFault.TheVariants.{Memory as SourceMemory}
use Rattle.tl_script.specs.declared.fault.ScriptFault.{ScriptFault}
use Rattle.tl_script.specs.declared.fault.ScriptFault.TheVariants.{Map, Sources, Memory}

-- a call answers what the definition gives, unless memory runs out
abbrev pub GivesInScript : {X Y : Type 0} → (X → Y) → Result X ScriptFault → Result Y ScriptFault → Type 0
GivesInScript view result read = MatchResult result (λ x. read ≡ Ok (view x)) (λ e. e ≢ Memory → read ≡ Err e)

-- a map's fault as a script's: want of memory is the script's own
abbrev pub map_fault : MapFault → ScriptFault
map_fault MapMemory = Memory
map_fault fault = Map fault

-- a fault of the sources as a script's
abbrev pub source_fault : SourceFault → ScriptFault
source_fault SourceMemory = Memory
source_fault fault = Sources fault
