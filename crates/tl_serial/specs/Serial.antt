-- The run of a system by one thread: master 0's requests, then master 1's, and so on, each answered before the next.
-- The order is this project's own; what a reply is (`reply`) is told with the stores that give it.
use Rattle.std.specs.Prelude.{◌≡◌, ℕ, ◌+◌, ◌==◌, List, [], ◌∷◌, ◌++◌, map, filter, take, length, Some, slice_get, IsSomeAnd}
use Rattle.tl_types.specs.Request.{Request}
use Rattle.tl_types.specs.Response.{Response}
use Rattle.tl_types.specs.declared.trace.Entry.{Entry}
use Rattle.tl_ops.specs.Store.{reply}
use Rattle.tl_ops.specs.History.{replay}
use Rattle.tl_map.specs.Map.{Routes}
use Rattle.tl_map.specs.Owner.{IsWideSource}
use Rattle.tl_map.specs.declared.owners.Owner.{Owner}
use Rattle.tl_script.specs.System.{System, sends, resets}

-- ---- the entries of a run, in the order served

-- the entries of a master, each with the master's number
abbrev pub numbered : ℕ → List Entry → List (ℕ × Entry)
numbered master entries = map (λ (e : Entry). (master, e)) entries

-- the entries of each master in turn, where the first has this number
abbrev pub log_from : ℕ → List (List Entry) → List (ℕ × Entry)
log_from master [] = []
log_from master (entries ∷ traces) = numbered master entries ++ log_from (master + 1) traces

-- the entries of all masters, from master 0 on
abbrev pub log_of : List (List Entry) → List (ℕ × Entry)
log_of traces = log_from 0 traces

-- those that one port served
abbrev pub at_port : ℕ → List (ℕ × Entry) → List (ℕ × Entry)
at_port port log = filter (λ (e : ℕ × Entry). e.1.port == port) log

-- the requests that one port served
abbrev pub requests_at : ℕ → List (ℕ × Entry) → List Request
requests_at port log = map (λ (e : ℕ × Entry). e.1.ask) (at_port port log)

-- ---- what each entry is

-- the entry is what a request gets after these: at the port that it is routed to, with the number of entries there as
-- its index, the reply of that port's memory after the requests there
pub record IsServedAfter (s : System) (log : List (ℕ × Entry)) (e : Entry) : Type 0 where
  pub port : Routes s.ranges e.ask e.port
  pub index : e.index ≡ length (at_port e.port log)
  pub reply : IsSomeAnd (slice_get (resets s) e.port)
      (λ reset. e.reply ≡ reply (replay reset (requests_at e.port log)) e.ask)

-- each entry is what its request gets after those before it
abbrev pub AreServedInTurn : System → List (ℕ × Entry) → Type 0
AreServedInTurn s log = (k : ℕ) (e : ℕ × Entry) → slice_get log k ≡ Some e → IsServedAfter s (take k log) e.1

-- ---- histories

-- a request and its reply are a master's entry with the wide source in place of the master's own
pub record IsWidened (owners : List Owner) (e : ℕ × Entry) (pair : Request × Response) : Type 0 where
  pub wide : ℕ
  pub is : IsWideSource owners e.0 e.1.ask.source wide
  pub ask : pair.0 ≡ record e.1.ask { source = wide }
  pub reply : pair.1 ≡ record e.1.reply { source = wide }

-- the history is these entries, one by one, with wide sources
abbrev pub IsHistoryOf : List Owner → List (ℕ × Entry) → List (Request × Response) → Type 0
IsHistoryOf owners [] [] = Unit {0}
IsHistoryOf owners [] (pair ∷ history) = ⊥
IsHistoryOf owners (e ∷ entries) [] = ⊥
IsHistoryOf owners (e ∷ entries) (pair ∷ history) = IsWidened owners e pair × IsHistoryOf owners entries history

-- ---- the run

-- the requests of a trace
abbrev pub asks_in : List Entry → List Request
asks_in entries = map (λ (e : Entry). e.ask) entries

-- the traces and the histories of the run: each master's trace has the requests of its operations in order, waits
-- dropped; all are served in turn; and each port's history is what it served
pub record IsSerialRun (s : System) (traces : List (List Entry))
    (histories : List (List (Request × Response))) : Type 0 where
  pub asked : map asks_in traces ≡ map sends s.jobs
  pub served : AreServedInTurn s (log_of traces)
  pub ports : length histories ≡ length s.ranges + 1
  pub recorded : (p : ℕ) (history : List (Request × Response)) → slice_get histories p ≡ Some history
      → IsHistoryOf s.owners (at_port p (log_of traces)) history
