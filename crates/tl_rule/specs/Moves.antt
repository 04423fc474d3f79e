-- What each step tells: of the step, the seat before, the word found (at a store, the word stored) and the seat
-- after. Each is one event of the core. The steps are this project's own; that a source has one request out at a time
-- is of the chapter on channels of the TileLink specification.
use Rattle.std.specs.Prelude.{◌≡◌, ◌≢◌, ℕ, ◌<◌, ◌/◌, ◌%◌, List, ◌∷◌, ◌++◌, [], length, Bool, true, false, Option}
use Rattle.std.specs.Prelude.{Some, None, ◌≤◌, take}
use Rattle.atomic_table.specs.Table.{Me, Step, rest}
use Rattle.tl_types.specs.Request.{Request}
use Rattle.tl_types.specs.Response.{Response}
use Rattle.tl_types.specs.declared.trace.Entry.{Entry}
use Rattle.tl_ops.specs.History.{IsLawfulHistory}
use Rattle.tl_slots.specs.declared.event.Event.TheVariants.{Claim, Post, Accept, Answer, Collect, Release, Leave}
use Rattle.tl_rule.specs.declared.view.Held.{Held}
use Rattle.tl_rule.specs.declared.view.Held.TheVariants.{Nothing, Filled, Sent, Taken}
use Rattle.tl_rule.specs.declared.view.Hands.{Hands}
use Rattle.tl_rule.specs.declared.view.Desk.{Desk}
use Rattle.tl_rule.specs.declared.view.View.{View}
use Rattle.tl_rule.specs.declared.view.View.TheVariants.{Dealer, Master, Port}
use Rattle.tl_rule.specs.Record.{SlotRecord, Spells, SpellsAnswer, Berth}
use Rattle.tl_rule.specs.Serving.{ask_at, drop_slot, HasDistinctSlots}
use Rattle.tl_rule.specs.Views.{Owns, reset_of, no_hands, no_desk, in_hand, Above, with_hand, with_serving, gone_hands}
use Rattle.tl_rule.specs.Events.{IsEventOf}
use Rattle.tl_rule.specs.Seen.{IsOfMasters, SeenFit, JustOwn, IsPlaceOf, at_port, sent_at}

-- ---- seats

-- a seat: its view, and the slots that it has taken out, with their records
abbrev pub Seat : Type 0
Seat = Me Berth View

-- the view is a master's.
abbrev pub is_master : View → Bool
is_master (Dealer a m p) = false
is_master (Master v) = true
is_master (Port u) = false

-- the view is a port's.
abbrev pub is_port : View → Bool
is_port (Dealer a m p) = false
is_port (Master v) = false
is_port (Port u) = true

-- the view of a master's seat; blank if the seat is not a master's.
abbrev pub as_master : View → Hands
as_master (Dealer a m p) = no_hands
as_master (Master v) = v
as_master (Port u) = no_hands

-- the view of a port's seat; blank if the seat is not a port's.
abbrev pub as_port : View → Desk
as_port (Dealer a m p) = no_desk
as_port (Master v) = no_desk
as_port (Port u) = u

-- the seat's view, where the hand has x of the slot
abbrev pub handed : Seat → ℕ → Held → View
handed m i x = Master (with_hand (as_master m.0) i x (as_master m.0).got)

-- the request that the seat serves at the slot
abbrev pub service_of : Seat → ℕ → Option Request
service_of m i = ask_at (as_port m.0).serving i

-- a record that is not there: it has no beats and no replies.
abbrev pub no_record : SlotRecord
no_record = record { beats = []; port = 0; index = 0; replies = [] }

-- the record in a berth; blank if the berth is empty.
abbrev pub record_in : Berth → SlotRecord
record_in None = no_record
record_in (Some r) = r

-- the record of the slot that was taken last, which stands first; blank if no slot is out.
abbrev pub top : List (ℕ × Berth) → SlotRecord
top [] = no_record
top (x ∷ xs) = record_in x.1

-- no request of this source is out: the chapter on channels has it so
abbrev pub IsUnsent : Seat → ℕ → Type 0
IsUnsent m source = (i p known : ℕ) (ask : Request) → in_hand (as_master m.0) i ≡ Sent ask p known → source ≢ ask.source

-- ---- steps

-- the master and the port that a slot's word names, as `tl_slots` codes them: eight bits after those of the phase, and
-- all after these
abbrev pub owner_in : ℕ → ℕ
owner_in word = word / 8 % 256

-- the port that a slot's word names: its bits from bit 11 on, counted from 0.
abbrev pub port_in : ℕ → ℕ
port_in word = word / 2048

-- what a step tells: of the step, the seat before it, the word found (at a store, the word stored) and the seat after it.
abbrev pub Play : Type 1
Play = Step Berth → Seat → ℕ → Seat → Type 0

-- what a compare-exchange that found its word tells: of the step, the seat before it and the seat after it.
abbrev pub Won : Type 1
Won = Step Berth → Seat → Seat → Type 0

-- a compare-exchange, which changes the seat only if it found the word that it looked for
abbrev pub Tried : Won → Play
Tried won st m r n = (r ≡ st.first → won st m n) × (r ≢ st.first → n ≡ m)

-- the slot was not in the hand, and is now, with its record
pub record Claims (st : Step Berth) (m n : Seat) : Type 0 where
  pub letter : SlotRecord
  pub seat : n ≡ (handed m st.word Filled, (st.word, Some letter) ∷ m.1)
  pub free : in_hand (as_master m.0) st.word ≡ Nothing
  pub inside : st.word < length (as_master m.0).hand
  pub event : IsEventOf (as_master m.0).about (Claim st.word (as_master m.0).number) m.0 n.0

-- what the record spells is sent to the port that the stored word names
pub record Sends (st : Step Berth) (m : Seat) (r : ℕ) (n : Seat) : Type 0 where
  pub ask : Request
  pub spells : Spells (top m.1) ask
  pub seat : n ≡ (handed m st.word (Sent ask (port_in r) (length (as_master m.0).got)), rest m.1)
  pub event : IsEventOf (as_master m.0).about (Post st.word (as_master m.0).number (port_in r)) m.0 n.0

-- a port's view in itself: no slot and no source is served twice, its list is true of its memory, and what it has
-- served and serves are requests of masters alone
pub record IsLawfulDesk (u : Desk) : Type 0 where
  pub number : u.number < u.about.ports
  pub slots : HasDistinctSlots u.serving
  pub inside : (i : ℕ) (ask : Request) → ask_at u.serving i ≡ Some ask → i < u.about.slots
  pub few : length u.serving ≤ u.about.slots
  pub sources : (i j : ℕ) (ask other : Request) → ask_at u.serving i ≡ Some ask → ask_at u.serving j ≡ Some other
      → ask.source ≡ other.source → i ≡ j
  pub lawful : IsLawfulHistory (reset_of u.about u.number) u.list
  pub listed : IsOfMasters u.about u.list
  pub served : (i : ℕ) (ask : Request) → ask_at u.serving i ≡ Some ask → (master : ℕ) × Owns u.about master ask.source

-- the port serves what the record spells, at a slot and of a source that it did not serve, of the master that the
-- word names
pub record Accepts (st : Step Berth) (m n : Seat) : Type 0 where
  pub letter : SlotRecord
  pub ask : Request
  pub spells : Spells letter ask
  pub seat : n
      ≡ (
        Port (with_serving (as_port m.0) ((as_port m.0).serving ++ (st.word, ask) ∷ []) (as_port m.0).list),
        (st.word, Some letter) ∷ m.1,
      )
  pub free : service_of m st.word ≡ None
  pub owner : Owns (as_port m.0).about (owner_in st.first) ask.source
  pub apart : (j : ℕ) (other : Request) → service_of m j ≡ Some other → ask.source ≢ other.source
  pub law : IsLawfulDesk (as_port n.0)
  pub event : IsEventOf (as_port m.0).about (Accept st.word (owner_in st.first) (as_port m.0).number) m.0 n.0

-- the request that was served at the slot, of the master that the word names, and the reply that the record spells, are
-- the last of the list
pub record Answers (st : Step Berth) (m : Seat) (r : ℕ) (n : Seat) : Type 0 where
  pub ask : Request
  pub serves : service_of m st.word ≡ Some ask
  pub reply : Response
  pub spells : SpellsAnswer (top m.1) ask.address reply
  pub seat : n
      ≡ (
        Port (with_serving (as_port m.0) (drop_slot st.word (as_port m.0).serving)
            ((as_port m.0).list ++ (ask, reply) ∷ [])),
        rest m.1,
      )
  pub owner : Owns (as_port m.0).about (owner_in r) ask.source
  pub law : IsLawfulDesk (as_port n.0)
  pub event : IsEventOf (as_port m.0).about (Answer st.word (owner_in r) (as_port m.0).number) m.0 n.0

-- the entry of a reply that was collected at port p, with the place of the request in the port's list as its index.
abbrev pub entry : ℕ → ℕ → Request → Response → Entry
entry p index ask reply = record { ask = ask; reply = reply; port = p; index = index }

-- The reply to what was sent is collected. In one lawful history of the port's reset, of requests of masters alone, it
-- stands after all that had been collected there when it was sent, and of the master's own requests are just those
-- that it made
pub record Collects (st : Step Berth) (m n : Seat) : Type 0 where
  pub letter : SlotRecord
  pub ask : Request
  pub port : ℕ
  pub known : ℕ
  pub reply : Response
  pub was : in_hand (as_master m.0) st.word ≡ Sent ask port known
  pub spells : Spells letter ask
  pub answer : SpellsAnswer letter ask.address reply
  pub seat : n
      ≡ (
        Master (with_hand (as_master m.0) st.word (Taken port)
            ((as_master m.0).got ++ entry port letter.index ask reply ∷ [])),
        (st.word, Some letter) ∷ m.1,
      )
  pub fresh : IsPlaceOf (at_port port (as_master m.0).got) letter.index → ⊥
  pub above : Above (as_master m.0).got known port letter.index
  pub history : List (Request × Response)
  pub lawful : IsLawfulHistory (reset_of (as_master m.0).about port) history
  pub masters : IsOfMasters (as_master m.0).about history
  pub seen : SeenFit history letter.index ask reply (at_port port (take known (as_master m.0).got))
  pub own : JustOwn history (Owns (as_master m.0).about (as_master m.0).number)
      (at_port port (as_master n.0).got) (sent_at port (as_master n.0).hand)
  pub event : IsEventOf (as_master m.0).about (Collect st.word (as_master m.0).number port) m.0 n.0

-- the hand loses the slot, whose reply was collected
pub record Releases (st : Step Berth) (m : Seat) (r : ℕ) (n : Seat) : Type 0 where
  pub port : ℕ
  pub was : in_hand (as_master m.0) st.word ≡ Taken port
  pub seat : n ≡ (handed m st.word Nothing, rest m.1)
  pub event : IsEventOf (as_master m.0).about (Release st.word (as_master m.0).number port) m.0 n.0

-- at the port, one lawful history of its reset, of requests of masters alone, has all that the master collected there,
-- and no other request of its own
pub record OwnsAll (v : Hands) (p : ℕ) : Type 0 where
  pub history : List (Request × Response)
  pub lawful : IsLawfulHistory (reset_of v.about p) history
  pub masters : IsOfMasters v.about history
  pub own : JustOwn history (Owns v.about v.number) (at_port p v.got) []

-- the master has left
pub record Leaves (st : Step Berth) (m : Seat) (r : ℕ) (n : Seat) : Type 0 where
  pub seat : n ≡ (Master (gone_hands (as_master m.0)), m.1)
  pub owns_all : (p : ℕ) → OwnsAll (as_master m.0) p
  pub event : IsEventOf (as_master m.0).about (Leave (as_master m.0).number) m.0 n.0
