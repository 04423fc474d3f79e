-- What a trace is to its callers, and how it keeps its entries: their requests and replies in a journal, and beside it
-- the places where they were served. This project's own.
use Rattle.std.specs.Prelude.{◌≡◌, ℕ, ◌≤◌, List, [], ◌∷◌, length, map}
use Rattle.tl_types.specs.Request.{Request}
use Rattle.tl_types.specs.Response.{Response}
use Rattle.tl_types.specs.declared.trace.Entry.{Entry}
use Rattle.tl_journal.specs.Journal.{JournalView}
use Rattle.tl_journal.specs.declared.trace.Place.{Place}

-- the entries, in the order in which they were appended, and for how many there is room in all
pub record TraceView : Type 0 where
  pub items : List Entry
  pub room : ℕ

-- the entries of traces
abbrev pub entries_in : List TraceView → List (List Entry)
entries_in traces = map (λ (trace : TraceView). trace.items) traces

-- the entry of a request and its reply that were served there
abbrev pub served_entry : Request → Response → Place → Entry
served_entry ask reply place = record { ask = ask; reply = reply; port = place.port; index = place.index }

-- where an entry was served
abbrev pub place_of : Entry → Place
place_of entry = record { port = entry.port; index = entry.index }

-- the entries of requests and replies, each with its place
abbrev pub entries_of : List (Request × Response) → List Place → List Entry
entries_of (pair ∷ pairs) (place ∷ places) = served_entry pair.0 pair.1 place ∷ entries_of pairs places
entries_of (pair ∷ pairs) [] = []
entries_of [] places = []

-- there is a place for each request, and room for those that are still to come
pub record IsKeptTrace (journal : JournalView) (places : List Place) (capacity : ℕ) : Type 0 where
  pub counted : length places ≡ length journal.items
  pub few : length journal.items ≤ journal.room
  pub places_fit : journal.room ≤ capacity
