-- The laws of the rule: that each kind of step is one event of the core, and what the rule says of seats and words.
-- Each law has what must hold before it as a record of named facts. All of it is this project's own.
use Rattle.std.specs.Prelude.{◌≡◌, ◌≢◌, ℕ, ◌+◌, ◌<◌, ◌≤◌, ◌⊎◌, false, List, [], ◌∷◌, ◌++◌, length, slice_index, Some}
use Rattle.std.specs.Prelude.{take}
use mathlib.Core.Option.{some}
use lib.ListN.{get_elem?}
use Rattle.atomic_table.specs.Table.{State, stepped, keeps, takes, gives}
use Rattle.tl_types.specs.Request.{Request}
use Rattle.tl_types.specs.Response.{Response}
use Rattle.tl_ops.specs.Store as store
use Rattle.tl_ops.specs.History.{replay, asks_of, IsLawfulHistory}
use Rattle.tl_slots.specs.declared.phase.Phase.{Phase}
use Rattle.tl_slots.specs.declared.phase.Phase.TheVariants.{Free, Filling, Posted, Serving, Answered, Taking}
use Rattle.tl_slots.specs.declared.event.Event.TheVariants.{Claim, Post, Accept, Answer, Collect, Release, Look, Leave}
use Rattle.tl_slots.specs.declared.word.TheConstants.{MAX_AGENT}
use Rattle.tl_slots.specs.Word.{word, IsWordOf}
use Rattle.tl_rule.specs.declared.view.About.{About}
use Rattle.tl_rule.specs.declared.view.Held.TheVariants.{Nothing, Filled, Sent, Taken}
use Rattle.tl_rule.specs.declared.view.Hands.{Hands}
use Rattle.tl_rule.specs.declared.view.Desk.{Desk}
use Rattle.tl_rule.specs.declared.view.View.{View}
use Rattle.tl_rule.specs.declared.view.View.TheVariants.{Master, Port}
use Rattle.tl_rule.specs.Record.{SlotRecord, Spells, SpellsAnswer, Berth}
use Rattle.tl_rule.specs.Serving.{ask_at, drop_slot}
use Rattle.tl_rule.specs.Views.{Owns, reset_of, in_hand, with_hand, with_serving, gone_hands}
use Rattle.tl_rule.specs.Rule.{Fits, IsHome, Names}
use Rattle.tl_rule.specs.Events.{IsOneEvent}
use Rattle.tl_rule.specs.Seen.{IsOfMasters, SeenFit, JustOwn, at_port, sent_at}
use Rattle.tl_rule.specs.Moves.{IsLawfulDesk, entry}

-- a table: its words, the records at home, and the views of its seats.
abbrev pub Table : Type 0
Table = State Berth View

-- the records that a seat has taken out, each with its slot
abbrev pub Carried : Type 0
Carried = List (ℕ × Berth)

-- a seat has this view
abbrev pub HasView : Table → ℕ → View → Type 0
HasView s id w = get_elem? s.views id ≡ some w

-- the table fits, and a seat of it has this view
pub record IsSeatOf (a : About) (s : Table) (id : ℕ) (w : View) : Type 0 where
  pub fits : Fits a s
  pub view : HasView s id w

-- ---- the eight kinds of step: what must hold before it, and that it is one event

-- a master that is there finds a slot Free
pub record CanClaim (a : About) (s : Table) (id i : ℕ) (v : Hands) : Type 0 where
  pub seat : IsSeatOf a s id (Master v)
  pub there : v.left ≡ false
  pub slot : i < a.slots
  pub free : slice_index s.words i ≡ word Free

-- and takes it, with its record
abbrev pub ClaimIsOneEvent : Type 0
ClaimIsOneEvent =
    (a : About) (s : Table) (id i : ℕ) (v : Hands) (carried : Carried) (letter : SlotRecord) → CanClaim a s id i v
    → IsOneEvent a (Claim i v.number) s
    (stepped s i (word (Filling v.number)) id carried (Master (with_hand v i Filled v.got)) (takes i (Some letter)))

-- a slot that was claimed gets a record that spells a request of the master's own source, of which none is out
pub record CanPost (a : About) (s : Table) (id i : ℕ) (v : Hands) (letter : SlotRecord) (ask : Request) (p : ℕ)
    : Type 0 where
  pub seat : IsSeatOf a s id (Master v)
  pub filled : in_hand v i ≡ Filled
  pub spells : Spells letter ask
  pub port : p < v.about.ports
  pub own : Owns v.about v.number ask.source
  pub unsent : (j q known : ℕ) (other : Request) → in_hand v j ≡ Sent other q known → ask.source ≢ other.source

-- such a post is one event: the record goes home, the word says Posted, and the hand has the request as sent to port p.
abbrev pub PostIsOneEvent : Type 0
PostIsOneEvent =
    (a : About) (s : Table) (id i : ℕ) (v : Hands) (carried : Carried) (letter : SlotRecord) (ask : Request) (p : ℕ)
    → CanPost a s id i v letter ask p
    → IsOneEvent a (Post i v.number p) s
    (stepped s i (word (Posted v.number p)) id ((i, Some letter) ∷ carried)
    (Master (with_hand v i (Sent ask p (length v.got)) v.got)) gives)

-- whoever looks changes nothing
abbrev pub LookIsOneEvent : Type 0
LookIsOneEvent =
    (a : About) (s : Table) (id i : ℕ) (w : View) (carried : Carried) → IsSeatOf a s id w → i < a.slots
    → IsOneEvent a (Look i) s (stepped s i (slice_index s.words i) id carried w keeps)

-- a port finds a slot Posted for it
pub record CanAccept (a : About) (s : Table) (id i : ℕ) (u : Desk) (letter : SlotRecord) (ask : Request) (owner : ℕ)
    : Type 0 where
  pub seat : IsSeatOf a s id (Port u)
  pub slot : i < a.slots
  pub small : owner ≤ MAX_AGENT
  pub posted : slice_index s.words i ≡ word (Posted owner u.number)
  pub home : IsHome s.homes i letter
  pub spells : Spells letter ask

-- and takes the record, whose request it serves
abbrev pub AcceptIsOneEvent : Type 0
AcceptIsOneEvent =
    (a : About) (s : Table) (id i : ℕ) (u : Desk) (carried : Carried) (letter : SlotRecord) (ask : Request) (owner : ℕ)
    → CanAccept a s id i u letter ask owner
    → IsOneEvent a (Accept i owner u.number) s
    (stepped s i (word (Serving owner u.number)) id carried
    (Port (with_serving u (u.serving ++ (i, ask) ∷ []) u.list)) (takes i (Some letter)))

-- a slot that is served gets a record that spells its request and, at the end of the port's list, the reply of the
-- port's memory
pub record CanAnswer (a : About) (s : Table) (id i : ℕ) (u : Desk) (letter : SlotRecord) (ask : Request)
    (reply : Response) (owner : ℕ) : Type 0 where
  pub seat : IsSeatOf a s id (Port u)
  pub serves : ask_at u.serving i ≡ Some ask
  pub owns : Owns u.about owner ask.source
  pub spells : Spells letter ask
  pub answers : SpellsAnswer letter ask.address reply
  pub last : letter.index ≡ length u.list
  pub right : reply ≡ store.reply (replay (reset_of u.about u.number) (asks_of u.list)) ask

-- such an answer is one event: the record goes home, the word says Answered, and the port serves the slot no more.
abbrev pub AnswerIsOneEvent : Type 0
AnswerIsOneEvent =
    (a : About) (s : Table) (id i : ℕ) (u : Desk) (carried : Carried) (letter : SlotRecord) (ask : Request)
    (reply : Response) (owner : ℕ) → CanAnswer a s id i u letter ask reply owner
    → IsOneEvent a (Answer i owner u.number) s
    (stepped s i (word (Answered owner u.number)) id ((i, Some letter) ∷ carried)
    (Port (with_serving u (drop_slot i u.serving) (u.list ++ (ask, reply) ∷ []))) gives)

-- a master finds the slot of a request that it has sent Answered
pub record CanCollect (a : About) (s : Table) (id i : ℕ) (v : Hands) (letter : SlotRecord) (ask : Request)
    (reply : Response) (p known : ℕ) : Type 0 where
  pub seat : IsSeatOf a s id (Master v)
  pub sent : in_hand v i ≡ Sent ask p known
  pub answered : slice_index s.words i ≡ word (Answered v.number p)
  pub home : IsHome s.homes i letter
  pub answers : SpellsAnswer letter ask.address reply

-- and takes the record with the reply
abbrev pub CollectIsOneEvent : Type 0
CollectIsOneEvent =
    (a : About) (s : Table) (id i : ℕ) (v : Hands) (carried : Carried) (letter : SlotRecord) (ask : Request)
    (reply : Response) (p known : ℕ) → CanCollect a s id i v letter ask reply p known
    → IsOneEvent a (Collect i v.number p) s
    (stepped s i (word (Taking v.number p)) id carried
    (Master (with_hand v i (Taken p) (v.got ++ entry p letter.index ask reply ∷ []))) (takes i (Some letter)))

-- a slot whose reply was collected gets a record, whatever it is, and is free
abbrev pub ReleaseIsOneEvent : Type 0
ReleaseIsOneEvent =
    (a : About) (s : Table) (id i : ℕ) (v : Hands) (carried : Carried) (letter : SlotRecord) (p : ℕ)
    → IsSeatOf a s id (Master v) → in_hand v i ≡ Taken p
    → IsOneEvent a (Release i v.number p) s
    (stepped s i (word Free) id ((i, Some letter) ∷ carried) (Master (with_hand v i Nothing v.got)) gives)

-- a master that is there and has nothing in its hand
pub record CanLeave (a : About) (s : Table) (id : ℕ) (v : Hands) : Type 0 where
  pub seat : IsSeatOf a s id (Master v)
  pub there : v.left ≡ false
  pub empty : (i : ℕ) → in_hand v i ≡ Nothing

-- sets its leave word
abbrev pub LeaveIsOneEvent : Type 0
LeaveIsOneEvent =
    (a : About) (s : Table) (id : ℕ) (v : Hands) (carried : Carried) → CanLeave a s id v
    → IsOneEvent a (Leave v.number) s
    (stepped s (a.slots + v.number) 1 id carried (Master (gone_hands v)) keeps)

-- ---- what the rule says between two steps

-- a table that fits has a master's seat with this view and a port's with that
pub record AreSeatsOf (a : About) (s : Table) (id at : ℕ) (v : Hands) (u : Desk) : Type 0 where
  pub fits : Fits a s
  pub master : HasView s id (Master v)
  pub port : HasView s at (Port u)

-- a master's view and a port's list: the list is true of the port's memory and of requests of masters alone, what the
-- master collected there stands there, and what else there is of its own it has sent there
pub record IsTrueListFor (v : Hands) (u : Desk) : Type 0 where
  pub lawful : IsLawfulHistory (reset_of v.about u.number) u.list
  pub masters : IsOfMasters v.about u.list
  pub own : JustOwn u.list (Owns v.about v.number) (at_port u.number v.got) (sent_at u.number v.hand)

-- between any two steps each port's list is true for each master's view.
abbrev pub ListsAreJustOwn : Type 0
ListsAreJustOwn =
    (a : About) (s : Table) (id at : ℕ) (v : Hands) (u : Desk) → AreSeatsOf a s id at v u → IsTrueListFor v u

-- an answered slot: its owner has sent it, its record spells the reply, and that stands in the port's list after all
-- that the owner had seen there
pub record IsSeenAnswer (v : Hands) (u : Desk) (i : ℕ) (letter : SlotRecord) : Type 0 where
  pub ask : Request
  pub known : ℕ
  pub reply : Response
  pub sent : in_hand v i ≡ Sent ask u.number known
  pub asks : Spells letter ask
  pub answers : SpellsAnswer letter ask.address reply
  pub seen : SeenFit u.list letter.index ask reply (at_port u.number (take known v.got))

-- the record of a slot that the port has answered for the master
pub record IsAnsweredSlot (a : About) (s : Table) (i : ℕ) (v : Hands) (u : Desk) (letter : SlotRecord) : Type 0 where
  pub slot : i < a.slots
  pub answered : slice_index s.words i ≡ word (Answered v.number u.number)
  pub home : IsHome s.homes i letter

-- between any two steps the record of a slot that is answered spells a reply which stands in the port's list, after all
-- that the owner had seen there.
abbrev pub AnswersAreSeenFit : Type 0
AnswersAreSeenFit =
    (a : About) (s : Table) (id at i : ℕ) (v : Hands) (u : Desk) (letter : SlotRecord)
    → AreSeatsOf a s id at v u → IsAnsweredSlot a s i v u letter → IsSeenAnswer v u i letter

-- a slot in a master's hand is not Free, so no claim finds it
abbrev pub NoOwnedSlotIsClaimed : Type 0
NoOwnedSlotIsClaimed =
    (a : About) (s : Table) (id i : ℕ) (v : Hands) → IsSeatOf a s id (Master v) → in_hand v i ≢ Nothing
    → slice_index s.words i ≢ word Free

-- and it is in no other master's hand
abbrev pub HandsAreApart : Type 0
HandsAreApart =
    (a : About) (s : Table) (id other i : ℕ) (v w : Hands) → IsSeatOf a s id (Master v) → HasView s other (Master w)
    → in_hand v i ≢ Nothing → in_hand w i ≢ Nothing → id ≡ other

-- a port's view in itself
abbrev pub DesksAreLawful : Type 0
DesksAreLawful = (a : About) (s : Table) (at : ℕ) (u : Desk) → IsSeatOf a s at (Port u) → IsLawfulDesk u

-- the words: that of each slot codes a phase, and a leave word is 0 or 1
pub record AreArenaWords (a : About) (words : List ℕ) : Type 0 where
  pub many : length words ≡ a.slots + a.masters
  pub phases : (i : ℕ) → i < a.slots → (f : Phase) × IsWordOf f (slice_index words i)
  pub leaves : (m : ℕ) → m < a.masters
      → (slice_index words (a.slots + m) ≡ 0) ⊎ (slice_index words (a.slots + m) ≡ 1)
  -- whose slot it is has not left
  pub owners_stay : (i m : ℕ) (f : Phase) → i < a.slots → IsWordOf f (slice_index words i) → Names f m
      → (m < a.masters) × (slice_index words (a.slots + m) ≡ 0)

-- in each table that fits, the word of each slot codes a phase, and a leave word is 0 or 1.
abbrev pub WordsFit : Type 0
WordsFit = (a : About) (s : Table) → Fits a s → AreArenaWords a s.words

-- the leave word of each master is set
abbrev pub HaveAllLeft : About → List ℕ → Type 0
HaveAllLeft a words = (m : ℕ) → m < a.masters → slice_index words (a.slots + m) ≡ 1

-- if all have left, every slot is free
abbrev pub AllFreeAfterAllLeft : Type 0
AllFreeAfterAllLeft =
    (a : About) (words : List ℕ) → AreArenaWords a words → HaveAllLeft a words
    → (i : ℕ) → i < a.slots → slice_index words i ≡ word Free
