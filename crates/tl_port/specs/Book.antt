-- What a port's book shows to its callers, and when it is lawful. All of it is this project's own; what a request
-- leaves of a memory, and its reply, are of the chapter "TL-UL and TL-UH operations" of the TileLink specification.
use Rattle.std.specs.Prelude.{◌≡◌, ℕ, ◌+◌, ◌≤◌, List, [], length, slice_get, Some}
use Rattle.tl_types.specs.Request.{Request}
use Rattle.tl_types.specs.Response.{Response}
use Rattle.tl_ops.specs.Store.{Store}
use Rattle.tl_ops.specs.History.{replay, asks_of, IsLawfulHistory}
use Rattle.tl_rule.specs.Views.{reset_of}
use Rattle.tl_arena.specs.Views.{PortView}

-- the port's seat; its memory; the requests with their replies in the order served; the slots with their requests that
-- are in flight, the oldest first; and how many entries and flights it has room for
pub record BookView : Type 0 where
  pub seat : PortView
  pub store : Store
  pub history : List (Request × Response)
  pub flights : List (ℕ × Request)
  pub journal : ℕ

-- the book of a port with this memory: nothing was served, nothing is in flight, and there is room for `journal` entries.
abbrev pub new_book : PortView → Store → ℕ → BookView
new_book u store journal = record { seat = u; store = store; history = []; flights = []; journal = journal }

-- what the port's bank held when the arena was made
abbrev pub reset : BookView → Store
reset b = reset_of b.seat.arena.about b.seat.number

-- at each two places this is not the same
abbrev pub AreDistinctBy : {A : Type 0} → (A → ℕ) → List A → Type 0
AreDistinctBy {A} key xs =
    (j k : ℕ) (x y : A) → slice_get xs j ≡ Some x → slice_get xs k ≡ Some y → key x ≡ key y → j ≡ k

-- the book is lawful: its memory, its history and its seat agree, and all that it has taken has room in it.
pub record IsLawfulBook (b : BookView) : Type 0 where
  -- wide sources in flight are distinct
  pub sources : AreDistinctBy (λ (f : ℕ × Request). f.1.source) b.flights
  -- slots in flight are distinct, and what is in flight is what the seat serves
  pub slots : AreDistinctBy (λ (f : ℕ × Request). f.0) b.flights × (b.flights ≡ b.seat.serving)
  -- the memory is what the requests of the history leave of the reset
  pub bank : b.store ≡ replay (reset b) (asks_of b.history)
  -- each reply in the history is the sequential memory's
  pub replies : IsLawfulHistory (reset b) b.history
  -- the seat's list is the history
  pub list : b.seat.list ≡ b.history
  -- entries and requests in flight together are at most the journal
  pub room : length b.history + length b.flights ≤ b.journal
