-- Where the slaves of a system stand after a list of entries. This project's own.
use Rattle.std.specs.Prelude.{◌≡◌, ℕ, ◌+◌, Bool, true, List, [], ◌∷◌, ◌++◌, length, Option, Some, option_map, unwrap_or, slice_get, IsSomeAnd, map, take}
use Rattle.tl_map.specs.Owner.{IsWideSource}
use Rattle.tl_types.specs.declared.trace.Entry.{Entry}
use Rattle.tl_types.specs.Request.{Request}
use Rattle.tl_types.specs.Response.{Response}
use Rattle.tl_ops.specs.Store.{Store}
use Rattle.tl_ops.specs.History.{replay}
use Rattle.tl_map.specs.declared.owners.Owner.{Owner}
use Rattle.tl_script.specs.System.{System, sends}
use Rattle.tl_script.specs.Trace.{lines_of, trace_text}
use Rattle.tl_serial.specs.Serial.{requests_at, at_port, asks_in, log_of, numbered, AreServedInTurn, IsHistoryOf}
use Rattle.tl_script.specs.System.{resets}
use Rattle.tl_script.specs.declared.operation.Job.{Job}
use Rattle.tl_serial.specs.declared.run.Slave.{Slave}

-- what a slave port holds
abbrev pub bank_of : Slave → Store
bank_of slave = slave.counted.bank

-- how many requests a slave port has served
abbrev pub count_of : Slave → ℕ
count_of slave = slave.counted.served

-- what a slave port has served, if it keeps that
abbrev pub kept_by : Slave → Option (List (Request × Response))
kept_by slave = option_map (λ history. history.items) slave.history

-- what a slave port has served, or nothing if it does not keep that
abbrev pub history_of : Slave → List (Request × Response)
history_of slave = unwrap_or (kept_by slave) []

-- nothing was served yet, and what is served is kept or not
pub record IsFresh (keeps : Bool) (slave : Slave) : Type 0 where
  pub served : count_of slave ≡ 0
  pub kept : keeps ≡ true → kept_by slave ≡ Some []

-- the slave of a port after these entries: its bank has replayed the requests there, it has counted them, and where
-- histories are kept its own is those entries
pub record HasServed (s : System) (keeps : Bool) (log : List (ℕ × Entry)) (port : ℕ) (slave : Slave) : Type 0 where
  pub bank : IsSomeAnd (slice_get (resets s) port) (λ reset. bank_of slave ≡ replay reset (requests_at port log))
  pub served : count_of slave ≡ length (at_port port log)
  pub history : keeps ≡ true → IsSomeAnd (kept_by slave) (IsHistoryOf s.owners (at_port port log))

-- each entry's source has a wide one
abbrev pub HaveWide : List Owner → List (ℕ × Entry) → Type 0
HaveWide owners [] = Unit {0}
HaveWide owners (e ∷ log) = ((wide : ℕ) × IsWideSource owners e.0 e.1.ask.source wide) × HaveWide owners log

-- the slaves of a system after these entries, which were served in turn. Each entry's source has a wide source. The bank
-- of each port has replayed what its port served, each port has counted its entries, and a history that is kept has the
-- port's entries with wide sources.
pub record Stand (s : System) (keeps : Bool) (log : List (ℕ × Entry)) (slaves : List Slave) : Type 0 where
  pub ports : length slaves ≡ length s.ranges + 1
  pub served : AreServedInTurn s log
  pub wide : HaveWide s.owners log
  pub each : (port : ℕ) (slave : Slave) → slice_get slaves port ≡ Some slave → HasServed s keeps log port slave

-- a master's operations took the slaves from the ones to the others, and the lines of its entries were put after the
-- text
pub record IsAppended (s : System) (master : ℕ) (jobs : List Job) (old new : List Slave)
    (before text : List ℕ) : Type 0 where
  pub entries : List Entry
  pub asked : asks_in entries ≡ sends jobs
  pub stands : (keeps : Bool) (log : List (ℕ × Entry)) → Stand s keeps log old
      → Stand s keeps (log ++ numbered master entries) new
  pub is : text ≡ before ++ lines_of master entries

-- the text is that of the traces of the first `masters` masters, whose requests took the slaves from the ones to the
-- others
pub record AreWritten (s : System) (old new : List Slave) (text : List ℕ) (masters : ℕ) : Type 0 where
  pub traces : List (List Entry)
  pub counted : length traces ≡ masters
  pub asked : map asks_in traces ≡ map sends (take masters s.jobs)
  pub stands : (keeps : Bool) → Stand s keeps [] old → Stand s keeps (log_of traces) new
  pub is : text ≡ trace_text traces
