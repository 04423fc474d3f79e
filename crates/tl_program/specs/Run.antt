-- What a run of a system by threads gives. All of it is this project's own.
use Rattle.std.specs.Prelude.{◌≡◌, ℕ, ◌+◌, List, length, slice_get, Some}
use Rattle.tl_types.specs.declared.trace.Entry.{Entry}
use Rattle.tl_map.specs.declared.range.Range.{Range}
use Rattle.tl_script.specs.declared.operation.Job.{Job}
use Rattle.tl_script.specs.System.{System, resets}
use Rattle.tl_arena.specs.Views.{ArenaId, about_of}
use Rattle.tl_arena.specs.Account.{IsClosing}
use Rattle.tl_arena.specs.declared.account.HeldSlot.{HeldSlot}
use Rattle.tl_port.specs.Book.{BookView}
use Rattle.tl_workers.specs.Trace.{IsTrace}
use Rattle.tl_threads.specs.Left.{HaveLeft, IsBookOf}

-- a trace of each master
pub record AreTraces (arena : ArenaId) (ranges : List (List Range)) (jobs : List (List Job))
    (traces : List (List Entry)) : Type 0 where
  pub many : length traces ≡ length jobs
  pub each : (m : ℕ) (its_jobs : List Job) (entries : List Entry) → slice_get jobs m ≡ Some its_jobs
      → slice_get traces m ≡ Some entries → IsTrace arena ranges m its_jobs entries

-- a book of each port
pub record AreBooks (arena : ArenaId) (ports : ℕ) (books : List BookView) : Type 0 where
  pub many : length books ≡ ports
  pub each : (p : ℕ) (book : BookView) → slice_get books p ≡ Some book → IsBookOf arena p book

-- the traces, the books and the account are those of a run of the system over one arena, at whose end every master has
-- left: so by the account all slots are free and none is held
pub record IsThreadedRun (s : System) (traces : List (List Entry)) (books : List BookView) (free : List ℕ)
    (held : List HeldSlot) (left : List ℕ) : Type 0 where
  pub arena : ArenaId
  pub about : arena.about ≡ about_of s.slots s.owners (resets s)
  pub traces_are : AreTraces arena s.ranges s.jobs traces
  pub books_are : AreBooks arena (length s.ranges + 1) books
  pub account : IsClosing arena.about free held left
  pub all_left : HaveLeft (length s.owners) left
