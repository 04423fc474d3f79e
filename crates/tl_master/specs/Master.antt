-- What a master shows to its callers. All of it is this project's own.
use Rattle.std.specs.Prelude.{◌≡◌, ℕ, ◌<◌, ◌++◌, List, [], ◌∷◌, length, map, filter, eqb, count_by, slice_get, slice_index_or, replicate, Option, Some, None, is_some, IsSome, ◌≤◌}
use Rattle.tl_types.specs.Request.{Request}
use Rattle.tl_types.specs.Response.{Response}
use Rattle.tl_types.specs.declared.trace.Entry.{Entry}
use Rattle.tl_map.specs.Blocks.{counts_in}
use Rattle.tl_map.specs.Owner.{IsWideSource}
use Rattle.tl_map.specs.declared.owners.Owner.{Owner}
use Rattle.tl_arena.specs.Views.{MasterView, TicketView}

-- the master's seat; for each of its sources the request that is out, if there is one; the entries in the order
-- collected, with the master's own sources; and how many entries and requests out it has room for
pub record MasterState : Type 0 where
  pub seat : MasterView
  pub out : List (Option TicketView)
  pub trace : List Entry
  pub limit : ℕ

-- how many sources the master has, by the owners of all
abbrev pub count_of : List Owner → ℕ → ℕ
count_of owners master = slice_index_or (counts_in owners) master 0

-- a master with this seat, of which nothing is out and whose trace is empty; entries and requests out are at most
-- `limit`.
abbrev pub new_state : MasterView → ℕ → MasterState
new_state v limit = record {
  seat = v;
  out = replicate (count_of v.arena.about.owners v.number) None;
  trace = [];
  limit = limit;
}

-- what is out for the source
abbrev pub ticket_at : List (Option TicketView) → ℕ → Option TicketView
ticket_at out source = slice_index_or out source None

-- how many requests are out
abbrev pub out_of : List (Option TicketView) → ℕ
out_of out = count_by is_some out

-- the source is the lowest from this one on that a request is out for
pub record IsNextOut (out : List (Option TicketView)) (from source : ℕ) : Type 0 where
  pub not_below : from ≤ source
  pub some : IsSome (ticket_at out source)
  pub lowest : (other : ℕ) → from ≤ other → other < source → ticket_at out other ≡ None

-- ---- sources

-- the same request with this source.
abbrev pub ask_from : ℕ → Request → Request
ask_from source q = record { op = q.op; size = q.size; source = source; address = q.address; bytes = q.bytes }

-- the same reply with this source.
abbrev pub reply_to : ℕ → Response → Response
reply_to source r = record { op = r.op; size = r.size; source = source; denied = r.denied; bytes = r.bytes }

-- the same entry with this source
abbrev pub entry_from : ℕ → Entry → Entry
entry_from source e =
    record { ask = ask_from source e.ask; reply = reply_to source e.reply; port = e.port; index = e.index }

-- the second entry is the first with its source widened
pub record IsWidened (owners : List Owner) (master : ℕ) (own wide : Entry) : Type 0 where
  pub source : ℕ
  pub is : IsWideSource owners master own.ask.source source
  pub same : wide ≡ entry_from source own

-- entry by entry the second list is the first with its sources widened
pub record AreWidened (owners : List Owner) (master : ℕ) (own wide : List Entry) : Type 0 where
  pub many : length wide ≡ length own
  pub each : (k : ℕ) (e f : Entry) → slice_get own k ≡ Some e → slice_get wide k ≡ Some f → IsWidened owners master e f

-- ---- order

-- of two entries with one source and port the earlier has the smaller index
abbrev pub IsInOrder : List Entry → Type 0
IsInOrder es = (j k : ℕ) (d e : Entry) → j < k → slice_get es j ≡ Some d → slice_get es k ≡ Some e
    → d.ask.source ≡ e.ask.source → d.port ≡ e.port → d.index < e.index

-- the requests of the source, in order
abbrev pub of_source : ℕ → List Request → List Request
of_source source qs = filter (λ (q : Request). eqb q.source source) qs

-- the requests of entries, in order.
abbrev pub requests_of : List Entry → List Request
requests_of es = map (λ (e : Entry). e.ask) es

-- the request that is out, with the master's own source
abbrev pub out_ask : ℕ → Option TicketView → List Request
out_ask source None = []
out_ask source (Some t) = ask_from source t.ask ∷ []

-- what was asked of the source, in the order of issue: the requests collected, and then the one that is out
abbrev pub asked : MasterState → ℕ → List Request
asked m source = of_source source (requests_of m.trace) ++ out_ask source (ticket_at m.out source)
