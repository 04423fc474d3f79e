-- What the parts of a script make, or which fault they have, once their ranges, counts and operations were tried.
use Rattle.std.proofs.Common.{◌≡◌, ◌≢◌, List, Result, Ok, Err, IfErr, IsErrAnd, refl}
use Rattle.tl_map.specs.Map.{one_each}
use Rattle.tl_map.specs.Blocks.{AreBlocks}
use Rattle.tl_map.specs.declared.owners.Owner.{Owner}
use Rattle.tl_script.specs.Map.{AreLawfulRanges}
use Rattle.tl_script.specs.Sources.{AreLawfulCounts, IsFirstSourceFault}
use Rattle.tl_map.specs.declared.range.Range.{Range}
use Rattle.tl_script.specs.declared.sources.SourceFault.{SourceFault}
use Rattle.tl_script.specs.declared.sources.SourceFault.TheVariants.{TooMany, NoSource, Memory as SourceMemory}
use Rattle.tl_script.specs.Master.{IsOfJobs, jobs_from}
use Rattle.tl_script.specs.Reading.{source_fault}
use Rattle.tl_script.specs.Script.{MakesSystem, ScriptParts, IsFirstFaultOfScriptParts, counts_of, script_ranges}
use Rattle.tl_script.specs.System.{System}
use Rattle.tl_script.specs.declared.fault.ScriptFault.{ScriptFault}
use Rattle.tl_script.specs.declared.fault.ScriptFault.TheVariants.{NotToml, Missing, WrongType, OutOfRange, BadOp, Map, Sources, TooLong, Memory}
use Rattle.tl_script.specs.declared.operation.Job.{Job}

pub sources_refused : (parts : ScriptParts) (fault : SourceFault) → AreLawfulRanges (script_ranges parts)
    → IsFirstSourceFault (counts_of parts) fault
    → source_fault fault ≢ Memory → IsFirstFaultOfScriptParts parts (source_fault fault)
sources_refused parts TooMany lawful first other = (lawful, (λ e. absurd cc), first)
sources_refused parts (NoSource m) lawful first other = (lawful, (λ e. absurd cc), first)
sources_refused parts SourceMemory lawful first other = absurd (other refl)

pub jobs_refused : (parts : ScriptParts) (fault : ScriptFault) → AreLawfulRanges (script_ranges parts)
    → AreLawfulCounts (counts_of parts) → IsOfJobs fault
    → (fault ≢ Memory → jobs_from 0 parts.masters ≡ Err fault) → fault ≢ Memory → IsFirstFaultOfScriptParts parts fault
jobs_refused parts (BadOp m n) ranges counts of_jobs read other = (ranges, counts, read other)
jobs_refused parts Memory ranges counts of_jobs read other = absurd (other refl)
jobs_refused parts NotToml ranges counts of_jobs read other = absurd of_jobs
jobs_refused parts (Missing key) ranges counts of_jobs read other = absurd of_jobs
jobs_refused parts (WrongType key) ranges counts of_jobs read other = absurd of_jobs
jobs_refused parts (OutOfRange key) ranges counts of_jobs read other = absurd of_jobs
jobs_refused parts (Map fault) ranges counts of_jobs read other = absurd of_jobs
jobs_refused parts (Sources fault) ranges counts of_jobs read other = absurd of_jobs
jobs_refused parts TooLong ranges counts of_jobs read other = absurd of_jobs

pub system_of-made : (parts : ScriptParts) (owners : List Owner) (ranges : List (List Range)) (jobs : List (List Job))
    (system : System) → AreLawfulRanges (script_ranges parts) → AreLawfulCounts (counts_of parts)
    → AreBlocks (counts_of parts) owners → ranges ≡ one_each (script_ranges parts) → jobs_from 0 parts.masters ≡ Ok jobs
    → system ≡ record { slots = parts.slots; stores = parts.stores; owners = owners; ranges = ranges; jobs = jobs }
    → MakesSystem parts system
system_of-made parts owners ranges jobs system lawful_ranges lawful_counts blocks same_ranges read made = record {
  ranges = lawful_ranges;
  counts = lawful_counts;
  blocks = rw made blocks;
  jobs = rw made read;
  made = rw (made, same_ranges) refl;
}

-- what holds of a fault holds of the error that is that fault
pub error_is : {A : Type 0} (P : ScriptFault → Type 0) (fault : ScriptFault) (result : Result A ScriptFault)
    → IsErrAnd result (λ e. e ≡ fault) → P fault → IfErr result P
error_is P fault (Ok x) is holds = tt
error_is P fault (Err e) is holds = rw is holds
