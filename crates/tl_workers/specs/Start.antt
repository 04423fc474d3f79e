-- The threads of a run, from their start to their end. All of it is this project's own.
use Rattle.std.specs.Prelude.{◌≡◌, ℕ, ◌+◌, ◌<◌, List, [], ◌∷◌, vec_len, length, All, count_by, eqb, slice_get, Some}
use Rattle.std.specs.List.{flat_map}
use Rattle.std.specs.declared.thread.PromisedHandle.{PromisedHandle}
use Rattle.tl_types.specs.Request.{Request}
use Rattle.tl_journal.specs.Trace.{TraceView}
use Rattle.tl_map.specs.declared.range.Range.{Range}
use Rattle.tl_map.specs.Map.{Routes}
use Rattle.tl_script.specs.System.{System, sends}
use Rattle.tl_script.specs.declared.operation.Job.{Job}
use Rattle.tl_ops.specs.Store.{Store}
use Rattle.tl_arena.specs.Views.{ArenaId, MasterView, PortView, new_master, new_port}
use Rattle.tl_port.specs.Book.{BookView, new_book}
use Rattle.tl_rule.specs.Views.{reset_of}
use Rattle.tl_workers.specs.declared.start.TraceOf.{TraceOf}
use Rattle.tl_workers.specs.declared.run.MasterThread.{MasterThread}
use Rattle.tl_workers.specs.declared.run.ThreadSet.{ThreadSet}
use Rattle.tl_workers.specs.declared.run.WorkerThread.{WorkerThread}
use Rattle.tl_workers.specs.declared.setup.PortListeners.{PortListeners}
use Rattle.tl_workers.specs.Bell.{HasRoom}
use Rattle.tl_workers.specs.Trace.{IsTrace, IsIdle}

-- each thing of the list is this of its number, where the first has the number `from`
abbrev pub AreFrom : {X : Type 0} → (ℕ → X → Type 0) → ℕ → List X → Type 0
AreFrom {X} P from xs = (k : ℕ) (x : X) → slice_get xs k ≡ Some x → P (from + k) x

-- ---- what threads are handed

-- nothing was asked of the master, which has this number, and there is room for the replies to its operations: in its
-- trace, and in its bell for a ring each; and it has a bell to ring for each port
pub record IsNewMasterThread (arena : ArenaId) (s : System) (number : ℕ) (t : MasterThread) : Type 0 where
  pub idle : IsIdle arena number t.master
  pub room : (its_jobs : List Job) → slice_get s.jobs number ≡ Some its_jobs → t.master.limit ≡ length (sends its_jobs)
  pub bell : HasRoom t.master.limit t.bells.own
  pub rings : vec_len t.bells.others ≡ length s.ranges + 1

-- the thread is one of these ports', and has a bell to ring for each of so many masters
pub record IsNewWorkerThread (ports masters : ℕ) (t : WorkerThread) : Type 0 where
  pub port : t.port < ports
  pub rings : vec_len t.bells.others ≡ masters

-- what the threads of a run are handed: each master's of what its operations need, and each port's
pub record IsNewThreadSet (arena : ArenaId) (s : System) (t : ThreadSet) : Type 0 where
  pub masters : AreFrom (IsNewMasterThread arena s) 0 t.masters.items
  pub all : vec_len t.masters ≡ length s.jobs
  pub workers : All (IsNewWorkerThread (length s.ranges + 1) (length s.jobs)) t.workers.items

-- so many threads hear the bell of the port, which has room for a ring for each of its requests and a stop for each of
-- them
pub record IsHeardAt (journals : List ℕ) (workers : ℕ) (p : PortListeners) : Type 0 where
  pub within : p.port < length journals
  pub many : vec_len p.listeners ≡ workers
  pub room : (journal : ℕ) → slice_get journals p.port ≡ Some journal
      → All (HasRoom (journal + workers)) p.listeners.items

-- ---- how many requests go to each port

-- these are the ports that the map has these requests with, one for one
abbrev pub ArePortsOf : List (List Range) → List Request → List ℕ → Type 0
ArePortsOf ranges [] [] = Unit {0}
ArePortsOf ranges [] (port ∷ ports) = ⊥
ArePortsOf ranges (ask ∷ asks) [] = ⊥
ArePortsOf ranges (ask ∷ asks) (port ∷ ports) = Routes ranges ask port × ArePortsOf ranges asks ports

-- how often the number is in the list
abbrev pub occurrences_of : List ℕ → ℕ → ℕ
occurrences_of numbers n = count_by (λ m. eqb m n) numbers

-- so many of these requests go to the port
pub record GoTo (ranges : List (List Range)) (asks : List Request) (port count : ℕ) : Type 0 where
  pub ports : List ℕ
  pub are : ArePortsOf ranges asks ports
  pub count_is : count ≡ occurrences_of ports port

-- each port's count is larger by the number of these requests that go there
pub record AddsArrivals (ranges : List (List Range)) (asks : List Request) (old new : List ℕ) : Type 0 where
  pub ports : List ℕ
  pub are : ArePortsOf ranges asks ports
  pub many : length new ≡ length old
  pub each : (p n : ℕ) → slice_get old p ≡ Some n → slice_get new p ≡ Some (n + occurrences_of ports p)

-- the requests of all masters
abbrev pub all_sends : List (List Job) → List Request
all_sends jobs = flat_map sends jobs

-- for each port the number of the requests of all masters that go there
pub record AreJournals (s : System) (journals : List ℕ) : Type 0 where
  pub many : length journals ≡ length s.ranges + 1
  pub each : (p n : ℕ) → slice_get journals p ≡ Some n → GoTo s.ranges (all_sends s.jobs) p n

-- the handle of a master's thread, which ends with a trace that keeps the thread's promise.
abbrev pub Handle : Type 0
Handle = PromisedHandle TraceView TraceOf

-- the thread promised the trace of this master's operations
pub record IsPromised (arena : ArenaId) (ranges : List (List Range)) (jobs : List (List Job)) (number : ℕ)
    (h : Handle) : Type 0 where
  pub number_is : h.promise.number ≡ number
  pub arena_is : h.promise.arena.value ≡ arena
  pub map_is : h.promise.map.value ≡ ranges
  pub jobs_are : slice_get jobs number ≡ Some h.promise.jobs.value

-- the trace is that of this master's operations
pub record IsTraceOf (arena : ArenaId) (ranges : List (List Range)) (jobs : List (List Job)) (number : ℕ)
    (t : TraceView) : Type 0 where
  pub its_jobs : List Job
  pub at : slice_get jobs number ≡ Some its_jobs
  pub trace : IsTrace arena ranges number its_jobs t.items

-- a trace of each master
pub record AreTracesOf (arena : ArenaId) (s : System) (traces : List TraceView) : Type 0 where
  pub all : length traces ≡ length s.jobs
  pub each : AreFrom (IsTraceOf arena s.ranges s.jobs) 0 traces

-- the book is of the arena
abbrev pub IsBookIn : ArenaId → ℕ → BookView → Type 0
IsBookIn arena number b = b.seat.arena ≡ arena

-- the book is that of a new port of this number, with the port's reset, and room for all requests that go there
pub record IsNewBook (arena : ArenaId) (s : System) (number : ℕ) (b : BookView) : Type 0 where
  pub is : b ≡ new_book (new_port arena number) (reset_of arena.about number) b.journal
  pub room : GoTo s.ranges (all_sends s.jobs) number b.journal

-- the seat is that of a new port of this number.
abbrev pub IsNewPort : ArenaId → ℕ → PortView → Type 0
IsNewPort arena number u = u ≡ new_port arena number

-- the bank holds what that of this port did when the arena was made.
abbrev pub IsResetBank : ArenaId → ℕ → Store → Type 0
IsResetBank arena number bank = slice_get arena.about.resets number ≡ Some bank

-- the seat is that of a new master of this number.
abbrev pub IsNewMaster : ArenaId → ℕ → MasterView → Type 0
IsNewMaster arena number v = v ≡ new_master arena number
