-- Which system a script describes, and the first fault of one that describes none. This project's own.
-- A script is read in two steps: first the parts that its tables name, in the order of the checks; then the system of
-- these parts, whose ranges make a map, whose counts are lawful, and whose lines are all operations.
use Rattle.std.specs.Prelude.{◌≡◌, ◌≢◌, ℕ, nat_lt, List, length, map, Result, Ok, Err, MatchResult, if◌then◌else◌, ok_or}
use Rattle.std.specs.Str.{is_utf8}
use Rattle.toml.specs.Data.{Members}
use Rattle.toml.specs.Parse.{parse_document}
use Rattle.tl_types.specs.declared.limits.TheConstants.{MAX_SLOTS}
use Rattle.tl_ops.specs.Store.{Store}
use Rattle.tl_map.specs.Map.{one_each}
use Rattle.tl_script.specs.Map.{AreLawfulRanges, IsFirstMapFault}
use Rattle.tl_map.specs.Blocks.{AreBlocks}
use Rattle.tl_map.specs.declared.owners.Owner.{Owner}
use Rattle.tl_script.specs.Sources.{AreLawfulCounts, IsFirstSourceFault}
use Rattle.tl_script.specs.declared.map.MapFault.TheVariants.{Memory as MapMemory}
use Rattle.tl_map.specs.declared.range.Range.{Range}
use Rattle.tl_script.specs.declared.sources.SourceFault.TheVariants.{Memory as SourceMemory}
use Rattle.tl_script.specs.Master.{ScriptMaster, jobs_from, script_master_view, script_masters}
use Rattle.tl_script.specs.Port.{script_ports}
use Rattle.tl_text.specs.Reading.{◌>>=◌}
use Rattle.tl_script.specs.System.{System, range_of, store_of}
use Rattle.tl_script.specs.Value.{script_number_at}
use Rattle.tl_script.specs.declared.operation.Job.{Job}
use Rattle.tl_script.specs.declared.fault.ScriptKey.TheVariants.{Slots}
use Rattle.tl_script.specs.declared.fault.ScriptFault.{ScriptFault}
use Rattle.tl_script.specs.declared.fault.ScriptFault.TheVariants.{TooLong, NotToml, Map, Sources}
use Rattle.tl_script.specs.declared.parts.ScriptParts as code_parts
use Rattle.tl_script.specs.declared.script.TheConstants.{MAX_SCRIPT}

-- ---- the parts that a script names

-- how many slots there are, the slave of each port at reset, and the masters with the lines of their operations
pub record ScriptParts : Type 0 where
  pub slots : ℕ
  pub stores : List Store
  pub masters : List ScriptMaster

-- the table of a script, which is a TOML document of at most so many bytes of UTF-8. It has at most 1,048,576 bytes,
-- which is tried before all else.
unfoldable pub script_document : List ℕ → Result Members ScriptFault
script_document bytes =
    if nat_lt MAX_SCRIPT (length bytes) then Err TooLong
    else if is_utf8 bytes then ok_or (parse_document bytes) NotToml
    else Err NotToml

-- the parts that a document's table names; members with other keys are nothing to it. The slots, from 1 to 256, are read
-- first, then the ports and then the masters.
unfoldable pub parts_in : Members → Result ScriptParts ScriptFault
parts_in members = do
  slots ← script_number_at Slots 1 MAX_SLOTS members
  stores ← script_ports members
  masters ← script_masters members
  Ok (record { slots = slots; stores = stores; masters = masters })

-- the parts that a script names, or the first fault on the way to them
abbrev pub script_parts : List ℕ → Result ScriptParts ScriptFault
script_parts bytes = script_document bytes >>= parts_in

-- ---- the system of the parts

-- the range of addresses of each port, in order.
abbrev pub script_ranges : ScriptParts → List Range
script_ranges parts = map range_of parts.stores

-- how many sources each master has, in order.
abbrev pub counts_of : ScriptParts → List ℕ
counts_of parts = map (λ (master : ScriptMaster). master.sources) parts.masters

-- the system of the parts with these operations, whose masters have these owners
abbrev pub system_of : ScriptParts → List Owner → List (List Job) → System
system_of parts owners jobs = record {
  slots = parts.slots;
  stores = parts.stores;
  owners = owners;
  ranges = one_each (script_ranges parts);
  jobs = jobs;
}

-- the parts make this system: their ranges make a map, their counts are lawful, each master has the block of its count,
-- and each line is an operation
pub record MakesSystem (parts : ScriptParts) (system : System) : Type 0 where
  pub ranges : AreLawfulRanges (script_ranges parts)
  pub counts : AreLawfulCounts (counts_of parts)
  pub blocks : AreBlocks (counts_of parts) system.owners
  pub jobs : jobs_from 0 parts.masters ≡ Ok system.jobs
  pub made : system ≡ system_of parts system.owners system.jobs

-- the first fault of parts that make no system: that of the ranges; if these make a map, that of the counts; and
-- if these are lawful, the lowest operation that is none
abbrev pub IsFirstFaultOfScriptParts : ScriptParts → ScriptFault → Type 0
IsFirstFaultOfScriptParts parts (Map fault) = (fault ≢ MapMemory) × IsFirstMapFault (script_ranges parts) fault
IsFirstFaultOfScriptParts parts (Sources fault) =
    AreLawfulRanges (script_ranges parts) × (fault ≢ SourceMemory) × IsFirstSourceFault (counts_of parts) fault
IsFirstFaultOfScriptParts parts fault =
    AreLawfulRanges (script_ranges parts) × AreLawfulCounts (counts_of parts) × (jobs_from 0 parts.masters ≡ Err fault)

-- ---- scripts

-- the script describes this system
pub record Spells (bytes : List ℕ) (system : System) : Type 0 where
  pub parts : ScriptParts
  pub named : script_parts bytes ≡ Ok parts
  pub makes : MakesSystem parts system

-- the first fault of a script that describes no system: that on the way to its parts, or else that of its parts
abbrev pub IsFirstScriptFault : List ℕ → ScriptFault → Type 0
IsFirstScriptFault bytes fault =
    MatchResult (script_parts bytes) (λ parts. IsFirstFaultOfScriptParts parts fault) (λ first. fault ≡ first)

-- what contracts see of the parts that were read
abbrev pub script_parts_view : code_parts.ScriptParts → ScriptParts
script_parts_view parts = record {
  slots = parts.slots;
  stores = map store_of parts.devices.items;
  masters = map script_master_view parts.masters.items;
}
