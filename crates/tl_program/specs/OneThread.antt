-- What the text of a run by threads is, told without threads, arenas or slots: port by port it is one thread's. What a
-- reply is stands in the chapter "TL-UL and TL-UH operations" of the TileLink specification; the rest is this project's
-- own.
use Rattle.std.specs.Prelude.{◌≡◌, ℕ, ◌+◌, Bool, List, ◌++◌, length, Some, slice_get}
use Rattle.tl_types.specs.Request.{Request}
use Rattle.tl_types.specs.Response.{Response}
use Rattle.tl_types.specs.declared.trace.Entry.{Entry}
use Rattle.tl_ops.specs.Store.{Store}
use Rattle.tl_ops.specs.History.{asks_of}
use Rattle.tl_map.specs.Owner.{IsWideSource}
use Rattle.tl_map.specs.Map.{Routes}
use Rattle.tl_master.specs.Master.{of_source, requests_of}
use Rattle.tl_audit.specs.Agrees.{HasEntry, HasPlace}
use Rattle.tl_audit.specs.Reader.{IsServedInOrder, IsTracedOnce, replies_of}
use Rattle.tl_script.specs.History.{account_text}
use Rattle.tl_script.specs.System.{System, resets, sends}
use Rattle.tl_script.specs.declared.operation.Job.{Job}
use Rattle.tl_serial.specs.Text.{run_text}
use Rattle.tl_workers.specs.Trace.{AreDoneInTurn, AreWaitedFor}
use Rattle.tl_program.specs.Engine.{IsThreadedText}

-- the entry of master m is of the port that the map has its request with; with its source widened it is the request at
-- its index in that port's history, and it carries the reply of the one thread that serves this history from the port's
-- reset
pub record IsServedByOne (s : System) (histories : List (List (Request × Response))) (m : ℕ) (e : Entry) : Type 0 where
  pub routed : Routes s.ranges e.ask e.port
  pub reset : Store
  pub starts : slice_get (resets s) e.port ≡ Some reset
  pub history : List (Request × Response)
  pub keeps : slice_get histories e.port ≡ Some history
  pub wide : ℕ
  pub is : IsWideSource s.owners m e.ask.source wide
  pub asked : slice_get (asks_of history) e.index ≡ Some (record e.ask { source = wide })
  pub replied : slice_get (replies_of reset (asks_of history)) e.index ≡ Some (record e.reply { source = wide })

-- the trace has for each source the requests of these operations, in their order, each once; at each wait those before
-- it stand before those after it, and at one port have the smaller indexes; and at one port what had been collected
-- when an operation was done has smaller indexes than what was sent then or later
pub record IsOfOperations (jobs : List Job) (trace : List Entry) : Type 0 where
  pub each : (source : ℕ) → of_source source (requests_of trace) ≡ of_source source (sends jobs)
  pub waits : AreWaitedFor jobs trace
  pub turns : AreDoneInTurn jobs trace

-- the traces and the histories are those of one thread a port: each trace is of its master's operations; each entry is
-- served by that thread; each entry of a history is traced once; and each source's entries at a port were served in the
-- order issued
pub record IsOneThreadsRun (s : System) (traces : List (List Entry))
    (histories : List (List (Request × Response))) : Type 0 where
  pub masters : length traces ≡ length s.jobs
  pub ports : length histories ≡ length s.ranges + 1
  pub asked : (m : ℕ) (jobs : List Job) (trace : List Entry) → slice_get s.jobs m ≡ Some jobs
      → slice_get traces m ≡ Some trace → IsOfOperations jobs trace
  pub served : (m k : ℕ) (e : Entry) → HasEntry traces m k e → IsServedByOne s histories m e
  pub once : (p i : ℕ) → HasPlace histories p i → IsTracedOnce traces p i
  pub order : (m : ℕ) (trace : List Entry) → slice_get traces m ≡ Some trace → IsServedInOrder trace

-- the text is that of such a run: its traces, its histories where they are asked for, and that all slots are free and
-- none is held
pub record IsOneThreadsText (history : Bool) (s : System) (text : List ℕ) : Type 0 where
  pub traces : List (List Entry)
  pub histories : List (List (Request × Response))
  pub run : IsOneThreadsRun s traces histories
  pub is : text ≡ run_text history traces histories ++ account_text s.slots 0

-- a text of a run of the system by threads is such a text
abbrev pub ThreadedTextIsOneThreads : System → Type 0
ThreadedTextIsOneThreads s =
    (history : Bool) (text : List ℕ) → IsThreadedText history s text → IsOneThreadsText history s text
