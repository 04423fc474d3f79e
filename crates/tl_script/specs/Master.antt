-- The masters of a script, and their operations. This project's own.
use Rattle.std.specs.Prelude.{◌≡◌, ℕ, ◌+◌, ⊤, List, [], ◌∷◌, length, map, slice_get, Some, Result, Ok, ok_or}
use Rattle.toml.specs.Data.{Members}
use Rattle.tl_script.specs.Operation.{operation_of}
use Rattle.tl_text.specs.Reading.{◌>>=◌, each}
use Rattle.tl_script.specs.System.{AreLawfulJobs}
use Rattle.tl_script.specs.Value.{script_value_at, script_number_at, list_at, script_text_of, script_tables_of, up_to_in_script, some_of}
use Rattle.tl_script.specs.declared.fault.ScriptKey.TheVariants.{Master as MasterKey, Sources, Ops}
use Rattle.tl_script.specs.declared.fault.ScriptFault.{ScriptFault}
use Rattle.tl_script.specs.declared.fault.ScriptFault.TheVariants.{BadOp, Memory}
use Rattle.tl_script.specs.declared.parts.ScriptMaster as code_master
use Rattle.tl_script.specs.declared.operation.Job.{Job}
use Rattle.tl_script.specs.declared.system.TheConstants.{MAX_JOBS}

-- how many sources a master says to have, and its operations as the script writes them
pub record ScriptMaster : Type 0 where
  pub sources : ℕ
  pub lines : List (List ℕ)

-- the lines of a master's operations
unfoldable pub lines_at : Members → Result (List (List ℕ)) ScriptFault
lines_at members = do
  value ← script_value_at Ops members
  items ← list_at Ops value
  lines ← each (script_text_of Ops) items
  up_to_in_script Ops MAX_JOBS lines

-- the master that a table describes: first the sources, from 0 to 65,535, then the lines of its operations, of which
-- there may be 4,096.
unfoldable pub master_of : Members → Result ScriptMaster ScriptFault
master_of members = do
  sources ← script_number_at Sources 0 65535 members
  lines ← lines_at members
  Ok (record { sources = sources; lines = lines })

-- the masters, of which there is at least one
unfoldable pub script_masters : Members → Result (List ScriptMaster) ScriptFault
script_masters members = do
  value ← script_value_at MasterKey members
  tables ← script_tables_of MasterKey value
  some ← some_of MasterKey tables
  each master_of some

-- the operations of master m from line n on, or the lowest line that is none
abbrev pub operations_from : ℕ → ℕ → ℕ → List (List ℕ) → Result (List Job) ScriptFault
operations_from sources m n [] = Ok []
operations_from sources m n (line ∷ lines) = do
  operation ← ok_or (operation_of sources line) (BadOp m n)
  operations ← operations_from sources m (n + 1) lines
  Ok (operation ∷ operations)

-- the operations of each master from m on
abbrev pub jobs_from : ℕ → List ScriptMaster → Result (List (List Job)) ScriptFault
jobs_from m [] = Ok []
jobs_from m (master ∷ masters) = do
  operations ← operations_from master.sources m 0 master.lines
  jobs ← jobs_from (m + 1) masters
  Ok (operations ∷ jobs)

-- what contracts see of a master
abbrev pub script_master_view : code_master.ScriptMaster → ScriptMaster
script_master_view master = record { sources = master.sources; lines = map (λ line. line.now) master.lines.items }

-- ---- for the proofs of the readers

-- the lists of operations of the first `masters` masters, lawful for the masters' counts of sources
pub record LawfulSoFar (counts : List ℕ) (lists : List (List Job)) (masters : ℕ) : Type 0 where
  pub counted : length lists ≡ masters
  pub each : (m : ℕ) (count : ℕ) (jobs : List Job) → slice_get counts m ≡ Some count → slice_get lists m ≡ Some jobs
      → AreLawfulJobs count jobs

-- the faults that reading operations can have
abbrev pub IsOfJobs : ScriptFault → Type 0
IsOfJobs (BadOp m n) = ⊤
IsOfJobs Memory = ⊤
IsOfJobs fault = ⊥
