-- What a master's thread makes of the master's operations. All of it is this project's own.
use Rattle.std.specs.Prelude.{◌≡◌, ℕ, ◌<◌, ◌≤◌, ◌++◌, ⊤, List, [], length, take, slice_get, Some}
use Rattle.tl_types.specs.Request.{Request}
use Rattle.tl_types.specs.declared.trace.Entry.{Entry}
use Rattle.tl_map.specs.declared.range.Range.{Range}
use Rattle.tl_map.specs.Map.{Routes}
use Rattle.tl_script.specs.declared.operation.Job.{Job}
use Rattle.tl_script.specs.declared.operation.Job.TheVariants.{Wait, Send}
use Rattle.tl_script.specs.System.{sends}
use Rattle.tl_arena.specs.Views.{ArenaId, MasterView, TicketView}
use Rattle.tl_arena.specs.Promises.{OwnsHistories}
use Rattle.tl_master.specs.Master.{MasterState, IsInOrder, AreWidened, requests_of, of_source, asked, out_of, ticket_at}
use Rattle.tl_master.specs.Steps.{AsksMore, AsksSame}

-- ---- the trace

-- the entries of these operations stand before all others, and were served before them: for each source the first
-- entries have its requests in the order of the operations, each once; and at one port the first have smaller indexes
-- than the others
pub record StandFirst (jobs : List Job) (entries : List Entry) : Type 0 where
  pub first : List Entry
  pub others : List Entry
  pub is : entries ≡ first ++ others
  pub each : (source : ℕ) → of_source source (requests_of first) ≡ of_source source (sends jobs)
  pub served : (j k : ℕ) (d e : Entry) → slice_get first j ≡ Some d → slice_get others k ≡ Some e → d.port ≡ e.port
      → d.index < e.index

-- at each wait all that was sent before it had been collected
abbrev pub AreWaitedFor : List Job → List Entry → Type 0
AreWaitedFor jobs entries = (k : ℕ) → slice_get jobs k ≡ Some Wait → StandFirst (take k jobs) entries

-- how many of these requests are of the source
abbrev pub many_of : ℕ → List Request → ℕ
many_of source asks = length (of_source source asks)

-- the entry at place k stands after as many entries of its source as there are such requests: it was sent after them
abbrev pub IsSentAfter : List Request → List Entry → ℕ → Entry → Type 0
IsSentAfter asks entries k e = many_of e.ask.source asks ≤ many_of e.ask.source (requests_of (take k entries))

-- at one port the first `had` entries have smaller indexes than each entry that was sent after these requests
abbrev pub AreServedBefore : List Request → ℕ → List Entry → Type 0
AreServedBefore asks had entries =
    (j k : ℕ) (d e : Entry) → j < had → slice_get entries j ≡ Some d → slice_get entries k ≡ Some e
    → IsSentAfter asks entries k e
    → d.port ≡ e.port → d.index < e.index

-- the operation waits for what is out of the source: a wait for all sources, a request for its own
abbrev pub WaitsFor : Job → ℕ → Type 0
WaitsFor Wait source = ⊤
WaitsFor (Send q) source = q.source ≡ source

-- when the operation was done, after these requests, `had` entries had been collected: among them all that had been
-- sent of each source that it waits for; and at one port they have smaller indexes than what was sent then or later
pub record IsDoneAfter (asks : List Request) (job : Job) (entries : List Entry) : Type 0 where
  pub had : ℕ
  pub within : had ≤ length entries
  pub waited : (source : ℕ) → WaitsFor job source
      → of_source source (requests_of (take had entries)) ≡ of_source source asks
  pub served : AreServedBefore asks had entries

-- so was each operation
abbrev pub AreDoneInTurn : List Job → List Entry → Type 0
AreDoneInTurn jobs entries =
    (k : ℕ) (job : Job) → slice_get jobs k ≡ Some job → IsDoneAfter (sends (take k jobs)) job entries

-- each entry is of the port that the map has its request with
abbrev pub AreRouted : List (List Range) → List Entry → Type 0
AreRouted ranges entries = (k : ℕ) (e : Entry) → slice_get entries k ≡ Some e → Routes ranges e.ask e.port

-- the trace of master `number` of the arena, whose operations are these: it has for each source the requests of that
-- source in the order of the operations, each once; at each wait the requests before it stand before those after it,
-- and at one port have the smaller indexes; at one port what had been collected when an operation was done has smaller
-- indexes than what was sent then or later; each entry is of the port that the map has its request with; of two entries
-- with one source and port the earlier has the smaller index; and with its sources widened it is what the master's seat
-- had collected when it left, of which for each port one lawful history has just the master's own
pub record IsTrace (arena : ArenaId) (ranges : List (List Range)) (number : ℕ) (jobs : List Job)
    (entries : List Entry) : Type 0 where
  pub each : (source : ℕ) → of_source source (requests_of entries) ≡ of_source source (sends jobs)
  pub waits : AreWaitedFor jobs entries
  pub turns : AreDoneInTurn jobs entries
  pub routed : AreRouted ranges entries
  pub order : IsInOrder entries
  pub seat : MasterView
  pub arena_is : seat.arena ≡ arena
  pub number_is : seat.number ≡ number
  pub widened : AreWidened arena.about.owners number entries seat.got
  pub own : OwnsHistories seat

-- ---- on the way there

-- what the master has collected, and what it has out, is of the port that the map has it with
pub record IsRouted (ranges : List (List Range)) (m : MasterState) : Type 0 where
  pub trace : AreRouted ranges m.trace
  pub out : (source : ℕ) (t : TicketView) → ticket_at m.out source ≡ Some t → Routes ranges t.ask t.port

-- the trace has all that it had, and what came since after it
pub record IsLonger (old new : List Entry) : Type 0 where
  pub more : List Entry
  pub is : new ≡ old ++ more

-- `had` entries had been collected when these requests had been sent: what was sent since is out from then on, or was
-- served after them
pub record IsCut (asks : List Request) (had : ℕ) (m : MasterState) : Type 0 where
  pub within : had ≤ length m.trace
  pub out : (source : ℕ) (t : TicketView) → ticket_at m.out source ≡ Some t
      → many_of source asks ≤ many_of source (requests_of m.trace) → had ≤ t.known
  pub served : AreServedBefore asks had m.trace

-- these are the requests that were asked of the master
abbrev pub HasBeenAsked : List Request → MasterState → Type 0
HasBeenAsked asks m = (source : ℕ) → asked m source ≡ of_source source asks

-- the operation was done after these requests, as `IsDoneAfter` says it of the trace in the end
pub record WasDone (asks : List Request) (job : Job) (m : MasterState) : Type 0 where
  pub had : ℕ
  pub cut : IsCut asks had m
  pub waited : (source : ℕ) → WaitsFor job source
      → of_source source (requests_of (take had m.trace)) ≡ of_source source asks

-- it is the same master, and nothing was asked of it
pub record IsSame (m n : MasterState) : Type 0 where
  pub arena : n.seat.arena ≡ m.seat.arena
  pub number : n.seat.number ≡ m.seat.number
  pub asked_is : AsksSame m n
  pub longer : IsLonger m.trace n.trace
  pub cuts : (asks : List Request) (had : ℕ) → IsCut asks had m → IsCut asks had n
  pub routed : (ranges : List (List Range)) → IsRouted ranges m → IsRouted ranges n

-- it is the same master, and the request is the last that was asked of it, in its turn, and sent to the port that the
-- map has it with
pub record HasAsked (ranges : List (List Range)) (m : MasterState) (q : Request) (n : MasterState) : Type 0 where
  pub arena : n.seat.arena ≡ m.seat.arena
  pub number : n.seat.number ≡ m.seat.number
  pub asked_is : AsksMore m q n
  pub longer : IsLonger m.trace n.trace
  pub cuts : (asks : List Request) (had : ℕ) → IsCut asks had m → IsCut asks had n
  pub turn : (asks : List Request) → HasBeenAsked asks m → WasDone asks (Send q) n
  pub routed : IsRouted ranges m → IsRouted ranges n

-- an operation was done: after a wait nothing is out
abbrev pub HasDone : List (List Range) → MasterState → Job → MasterState → Type 0
HasDone ranges m Wait n = IsSame m n × (out_of n.out ≡ 0)
HasDone ranges m (Send q) n = HasAsked ranges m q n

-- nothing was asked of this master yet
pub record IsIdle (arena : ArenaId) (number : ℕ) (m : MasterState) : Type 0 where
  pub arena_is : m.seat.arena ≡ arena
  pub number_is : m.seat.number ≡ number
  pub none : (source : ℕ) → asked m source ≡ []
  pub routed : (ranges : List (List Range)) → IsRouted ranges m

-- so was each of the first `done` operations
abbrev pub WereDone : List Job → ℕ → MasterState → Type 0
WereDone jobs done m =
    (k : ℕ) (job : Job) → k < done → slice_get jobs k ≡ Some job → WasDone (sends (take k jobs)) job m

-- the first `done` operations of the master were done, each in its turn
pub record IsDriven (arena : ArenaId) (ranges : List (List Range)) (number : ℕ) (jobs : List Job) (done : ℕ)
    (m : MasterState) : Type 0 where
  pub arena_is : m.seat.arena ≡ arena
  pub number_is : m.seat.number ≡ number
  pub asked_is : HasBeenAsked (sends (take done jobs)) m
  pub turns : WereDone jobs done m
  pub routed : IsRouted ranges m
