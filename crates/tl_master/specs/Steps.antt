-- What the calls of a master do to it. All of it is this project's own; that a source has one request out at a time is
-- of the chapter on channels of the TileLink specification.
use Rattle.std.specs.Prelude.{◌≡◌, ℕ, ◌+◌, ◌<◌, ◌≤◌, ◌++◌, cond, eqb, List, [], ◌∷◌, length, slice_set, Some, None, Result, Ok, Err, IsSome}
use Rattle.tl_types.specs.Request.{Request}
use Rattle.tl_types.specs.declared.trace.Entry.{Entry}
use Rattle.tl_map.specs.declared.range.Range.{Range}
use Rattle.tl_map.specs.Map.{Routes}
use Rattle.tl_map.specs.Owner.{IsWideSource}
use Rattle.tl_rule.specs.declared.view.Held.TheVariants.{Nothing, Filled, Sent}
use Rattle.tl_rule.specs.Views.{Above}
use Rattle.tl_arena.specs.Views.{MasterView, TicketView, ServedView, hand_at, with_held, entry_of}
use Rattle.tl_arena.specs.Promises.{IsCollected}
use Rattle.tl_master.specs.declared.master.Issued.{Issued}
use Rattle.tl_master.specs.declared.master.IssueFault.{IssueFault}
use Rattle.tl_master.specs.declared.master.IssueFault.TheVariants.{NoSuchSource, SourceBusy, TraceFull, NoSlot}
use Rattle.tl_master.specs.declared.master.Polled.{Polled}
use Rattle.tl_master.specs.declared.master.Polled.TheVariants.{Idle, NotYet, Done}
use Rattle.tl_master.specs.Master.{MasterState, ticket_at, out_of, ask_from, entry_from, asked}

-- ---- issue

-- a claimed slot has the request that was posted from it
abbrev pub with_posted : MasterView → TicketView → MasterView
with_posted v t = with_held (with_held v t.slot Filled) t.slot (Sent t.ask t.port t.known)

-- the request is out for its source, and all else is as it was
abbrev pub with_out : MasterState → ℕ → TicketView → MasterState
with_out m source t =
    record { seat = with_posted m.seat t; out = slice_set m.out source (Some t); trace = m.trace; limit = m.limit }

-- the request is posted from the claimed slot and from this wide source, to the port that the map gives it
pub record IsRoutedPost (ranges : List (List Range)) (q : Request) (wide : ℕ) (v : MasterView) (claim : ℕ) (t : TicketView)
    (issued : Issued) : Type 0 where
  pub from : t.slot ≡ claim
  pub ask : t.ask ≡ ask_from wide q
  pub routed : Routes ranges q t.port
  pub since : t.known ≡ length v.got
  pub slot : issued.slot ≡ t.slot
  pub port : issued.port ≡ t.port

-- the request, with its source widened, is posted from a slot that the master did not own
pub record IssuesOne (ranges : List (List Range)) (m : MasterState) (q : Request) (issued : Issued)
    (n : MasterState) : Type 0 where
  pub known : q.source < length m.out
  pub idle : ticket_at m.out q.source ≡ None
  pub room : length m.trace + out_of m.out < m.limit
  pub ticket : TicketView
  pub wide : ℕ
  pub widened : IsWideSource m.seat.arena.about.owners m.seat.number q.source wide
  pub free : hand_at m.seat ticket.slot ≡ Nothing
  pub posted : IsRoutedPost ranges q wide m.seat ticket.slot ticket issued
  -- it is known what had been collected then
  pub since : ticket.known ≡ length m.trace
  pub master : n ≡ with_out m q.source ticket

-- the refusal is the first that applies
abbrev pub IsRefused : MasterState → Request → IssueFault → Type 0
IsRefused m q NoSuchSource = length m.out ≤ q.source
IsRefused m q SourceBusy = (q.source < length m.out) × IsSome (ticket_at m.out q.source)
IsRefused m q TraceFull =
    (q.source < length m.out) × (ticket_at m.out q.source ≡ None) × (length m.trace + out_of m.out ≡ m.limit)
IsRefused m q NoSlot =
    (q.source < length m.out) × (ticket_at m.out q.source ≡ None) × (length m.trace + out_of m.out < m.limit)

-- what an issue of the request q does to the master m, by its answer: one request is posted, which leaves the master n;
-- or it is refused, and nothing changes.
abbrev pub Issues : List (List Range) → MasterState → Request → Result Issued IssueFault → MasterState → Type 0
Issues ranges m q (Ok issued) n = IssuesOne ranges m q issued n
Issues ranges m q (Err fault) n = (n ≡ m) × IsRefused m q fault

-- the request, if there is one of this source
abbrev pub ask_of : ℕ → Request → List Request
ask_of source q = cond (eqb q.source source) (q ∷ []) []

-- the request is the last that was asked of its source, and of the others nothing was
abbrev pub AsksMore : MasterState → Request → MasterState → Type 0
AsksMore m q n = (source : ℕ) → asked n source ≡ asked m source ++ ask_of source q

-- ---- poll

-- nothing is out for the source, the entry is the last of the trace, this is the seat, and all else is as it was
abbrev pub with_entry : MasterState → ℕ → MasterView → Entry → MasterState
with_entry m source v e =
    record { seat = v; out = slice_set m.out source None; trace = m.trace ++ e ∷ []; limit = m.limit }

-- the reply to what was posted is collected and its slot released; the entry has the master's own source
pub record IsReply (v : MasterView) (t : TicketView) (source : ℕ) (e : Entry) (w : MasterView) : Type 0 where
  pub served : ServedView
  pub taken : MasterView
  pub collected : IsCollected v t served taken
  pub entry : e ≡ entry_from source (entry_of served)
  pub seat : w ≡ with_held taken served.slot Nothing

-- the same, and the entry is the last of these, at this place, where those stood before
pub record Appends (v : MasterView) (t : TicketView) (source : ℕ) (before : List Entry) (place : ℕ) (w : MasterView)
    (after : List Entry) : Type 0 where
  pub entry : Entry
  pub reply : IsReply v t source entry w
  pub place_is : place ≡ length before
  pub is : after ≡ before ++ entry ∷ []

-- the reply to what was out for the source is collected, and this is its entry's place in the trace; what had been
-- collected at its port when its request was issued has smaller indexes
pub record CollectsOne (m : MasterState) (source place : ℕ) (n : MasterState) : Type 0 where
  pub ticket : TicketView
  pub was : ticket_at m.out source ≡ Some ticket
  pub entry : Entry
  pub reply : IsReply m.seat ticket source entry n.seat
  pub place_is : place ≡ length m.trace
  pub above : Above m.trace ticket.known entry.port entry.index
  pub master : n ≡ with_entry m source n.seat entry

-- what a poll of a source does to the master m, by its answer: nothing is out, what is out has no reply yet, or one reply
-- is collected. Only the last changes anything.
abbrev pub Polls : MasterState → ℕ → Polled → MasterState → Type 0
Polls m source Idle n = (n ≡ m) × (ticket_at m.out source ≡ None)
Polls m source NotYet n = (n ≡ m) × IsSome (ticket_at m.out source)
Polls m source (Done place) n = CollectsOne m source place n

-- what was asked of each source is as it was
abbrev pub AsksSame : MasterState → MasterState → Type 0
AsksSame m n = (source : ℕ) → asked n source ≡ asked m source
