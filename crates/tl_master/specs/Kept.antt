-- What a master keeps of itself. This is this project's own.
use Rattle.std.specs.Prelude.{◌≡◌, ◌≢◌, ℕ, ◌+◌, ◌<◌, ◌≤◌, ◌^◌, length, map, slice_get, Some}
use Rattle.tl_types.specs.Request.{Request}
use Rattle.tl_types.specs.declared.trace.Entry.{Entry}
use Rattle.tl_map.specs.Owner.{IsWideSource}
use Rattle.tl_rule.specs.declared.view.Held.TheVariants.{Sent}
use Rattle.tl_arena.specs.Views.{TicketView, hand_at, owned_of}
use Rattle.tl_master.specs.Master.{MasterState, count_of, ticket_at, out_of, entry_from, IsInOrder}

-- the entry with its source widened, where the master's wide sources start here
abbrev pub widened : ℕ → Entry → Entry
widened start e = entry_from (start + e.ask.source) e

-- what is out for the source was sent from the ticket's slot, and no reply for it was collected since
pub record IsOut (m : MasterState) (start source : ℕ) (t : TicketView) : Type 0 where
  pub sent : hand_at m.seat t.slot ≡ Sent t.ask t.port t.known
  pub ask_source : t.ask.source ≡ start + source
  pub since : (j : ℕ) (e : Entry) → t.known ≤ j → slice_get m.trace j ≡ Some e → e.ask.source ≢ source

-- the request of the slot is out for a source
pub record IsOfSource (m : MasterState) (slot : ℕ) : Type 0 where
  pub source : ℕ
  pub ticket : TicketView
  pub out : ticket_at m.out source ≡ Some ticket
  pub here : ticket.slot ≡ slot

-- the master's wide sources start at `start`, and `count` requests are out
pub record IsKeptMaster (m : MasterState) (start count : ℕ) : Type 0 where
  pub sources : length m.out ≡ count_of m.seat.arena.about.owners m.seat.number
  pub wide : (source : ℕ) → source < length m.out
      → IsWideSource m.seat.arena.about.owners m.seat.number source (start + source)
  pub fits : start + length m.out ≤ 2 ^ 16
  -- every entry has one of the master's sources, and the seat has the entries with wide sources
  pub own : (j : ℕ) (e : Entry) → slice_get m.trace j ≡ Some e → e.ask.source < length m.out
  pub got : m.seat.got ≡ map (widened start) m.trace
  pub count_is : count ≡ out_of m.out
  -- each slot that the master owns is that of a request out
  pub owned : owned_of m.seat ≡ count
  pub room : length m.trace + count ≤ m.limit
  pub out_sent : (source : ℕ) (t : TicketView) → ticket_at m.out source ≡ Some t → IsOut m start source t
  pub sent_out : (i p known : ℕ) (ask : Request) → hand_at m.seat i ≡ Sent ask p known → IsOfSource m i
  pub order : IsInOrder m.trace
