-- The rule of the arena's table: what the words, the records at home and the seats' views are between any two steps.
-- All of it is this project's own, but for three rules of the TileLink specification: a source has one request out at
-- a time (the chapter on channels), beats spell a request and its reply (the chapter "Beats and bursts"), and a reply
-- is the memory's (the chapter "TL-UL and TL-UH operations").
use Rattle.std.specs.Prelude.{◌≡◌, ◌≢◌, ℕ, ◌<◌, ◌≤◌, ◌⊎◌, Bool, true, false, cond, List, ◌∷◌, ◌++◌, map, length}
use Rattle.std.specs.Prelude.{slice_get, slice_index_or, Some}
use mathlib.Core.Option as maybe
use Rattle.atomic_table.specs.Table.{State}
use Rattle.tl_types.specs.Request.{Request}
use Rattle.tl_types.specs.Response.{Response}
use Rattle.tl_types.specs.declared.trace.Entry.{Entry}
use Rattle.tl_ops.specs.History.{IsLawfulHistory}
use Rattle.tl_slots.specs.declared.phase.Phase.{Phase}
use Rattle.tl_slots.specs.declared.phase.Phase.TheVariants.{Free, Filling, Posted, Serving, Answered, Taking}
use Rattle.tl_slots.specs.Phase.{owner_of}
use Rattle.tl_slots.specs.Word.{word}
use Rattle.tl_slots.specs.Machine.{IsInLimits}
use Rattle.tl_map.specs.Owners.{AreLawfulOwners}
use Rattle.tl_rule.specs.declared.view.About.{About}
use Rattle.tl_rule.specs.declared.view.Held.TheVariants.{Nothing, Filled, Sent, Taken}
use Rattle.tl_rule.specs.declared.view.Hands.{Hands}
use Rattle.tl_rule.specs.declared.view.Desk.{Desk}
use Rattle.tl_rule.specs.declared.view.View.{View}
use Rattle.tl_rule.specs.declared.view.View.TheVariants.{Dealer, Master, Port}
use Rattle.tl_rule.specs.Record.{SlotRecord, Spells, SpellsAnswer, Berth}
use Rattle.tl_rule.specs.Serving.{HasDistinctSlots}
use Rattle.tl_rule.specs.Views.{Owns, reset_of, hands, desk, held, served, Above}

-- ---- the table, written as plain lists

-- a table that fits, taken apart: the phase of each slot, which masters have left, the record of each slot where it is
-- at home, and the views of masters and ports by number
pub record Parts : Type 0 where
  pub phases : List Phase
  pub left : List Bool
  pub homes : List (maybe.Option Berth)
  pub masters : List Hands
  pub ports : List Desk

-- a leave word
abbrev pub leave_word : Bool → ℕ
leave_word left = cond left 1 0

-- the first seat deals the others: the masters' in order, and then the ports'
abbrev pub views_of : About → List Hands → List Desk → List View
views_of a ms ps = Dealer a (length ms) (length ps) ∷ (map Master ms ++ map Port ps)

-- the table that these lists stand for: first the words of the slots, then the leave words of the masters; the records at
-- home; and the views of all seats, the dealer's first.
abbrev pub table_of : About → Parts → State Berth View
table_of a c = record {
  words = map word c.phases ++ map leave_word c.left;
  homes = c.homes;
  views = views_of a c.masters c.ports;
}

-- the phase of slot i; Free if there is no such slot.
abbrev pub phase : Parts → ℕ → Phase
phase c i = slice_index_or c.phases i Free

-- the phase names the master
abbrev pub Names : Phase → ℕ → Type 0
Names f m = owner_of f ≡ Some m

-- ---- what is so of a slot in each phase

-- the record is at home in the slot
abbrev pub IsHome : List (maybe.Option Berth) → ℕ → SlotRecord → Type 0
IsHome homes i r = slice_index_or homes i maybe.none ≡ maybe.some (Some r)

-- the master has sent a request from the slot to the port
pub record Asked (ms : List Hands) (m i p : ℕ) : Type 0 where
  pub ask : Request
  pub known : ℕ
  pub sent : held ms m i ≡ Sent ask p known
  -- what it had collected then, it has now
  pub few : known ≤ length (hands ms m).got

-- the record at home in the slot spells the request
pub record HomeAsk (homes : List (maybe.Option Berth)) (i : ℕ) (ask : Request) : Type 0 where
  pub letter : SlotRecord
  pub at : IsHome homes i letter
  pub spells : Spells letter ask

module _ (a : About) (c : Parts) where
  -- the slot i in phase Posted: master m has sent a request from it to port p, and the record at home spells that
  -- request.
  pub record IsPosted (i m p : ℕ) : Type 0 where
    pub asked : Asked c.masters m i p
    pub home : HomeAsk c.homes i asked.ask
    pub port : p < a.ports

  -- the slot i in phase Serving: master m has sent a request from it to port p, and the port serves that request.
  pub record IsServing (i m p : ℕ) : Type 0 where
    pub asked : Asked c.masters m i p
    pub serves : served c.ports p i ≡ Some asked.ask

  -- the slot i in phase Answered: master m has sent a request from it to port p, and the record at home spells that
  -- request and a reply, which stand in the port's list.
  pub record IsAnswered (i m p : ℕ) : Type 0 where
    pub asked : Asked c.masters m i p
    pub home : HomeAsk c.homes i asked.ask
    pub answer : Response
    pub spells : SpellsAnswer home.letter asked.ask.address answer
    -- the reply stands with the request at the record's index of the port's list
    pub listed : slice_get (desk c.ports p).list home.letter.index ≡ Some (asked.ask, answer)
    -- that index is above all that the owner had collected there when it posted
    pub above : Above (hands c.masters m).got asked.known p home.letter.index

  -- the slot i in phase Taking: master m has it in its hand, has collected the reply of port p, and has not released the
  -- slot.
  pub record IsTaken (i m p : ℕ) : Type 0 where
    pub taken : held c.masters m i ≡ Taken p
    pub port : p < a.ports

  -- what is so of the slot i in each phase
  abbrev pub InPhase : ℕ → Phase → Type 0
  InPhase i Free = (r : SlotRecord) × IsHome c.homes i r
  InPhase i (Filling m) = held c.masters m i ≡ Filled
  InPhase i (Posted m p) = IsPosted i m p
  InPhase i (Serving m p) = IsServing i m p
  InPhase i (Answered m p) = IsAnswered i m p
  InPhase i (Taking m p) = IsTaken i m p

  -- ---- whose each place of a port's list is

  -- it is that of a slot of m which is answered at p
  pub record InSlot (m p k : ℕ) : Type 0 where
    pub slot : ℕ
    pub letter : SlotRecord
    pub phased : phase c slot ≡ Answered m p
    pub at : IsHome c.homes slot letter
    pub index : letter.index ≡ k

  -- or of a reply that m has collected at p
  pub record InGot (m p k : ℕ) : Type 0 where
    pub place : ℕ
    pub entry : Entry
    pub at : slice_get (hands c.masters m).got place ≡ Some entry
    pub port : entry.port ≡ p
    pub index : entry.index ≡ k

  -- the place k of the list of p, with this request, is that of an answered slot or of a collected reply of the
  -- master whose source it is
  pub record Placed (p k : ℕ) (ask : Request) : Type 0 where
    pub master : ℕ
    pub owns : Owns a master ask.source
    pub place : InSlot master p k ⊎ InGot master p k

  -- whose the places of all lists are, so that no reply is invented, lost or given twice.
  pub record Places : Type 0 where
    -- each place of a list is that of an answered slot or of a collected reply
    pub placed : (p k : ℕ) (x : Request × Response) → slice_get (desk c.ports p).list k ≡ Some x → Placed p k x.0
    -- each collected reply is the entry at its index, and of the master's own source
    pub got : (m j : ℕ) (e : Entry) → slice_get (hands c.masters m).got j ≡ Some e
        → (slice_get (desk c.ports e.port).list e.index ≡ Some (e.ask, e.reply)) × Owns a m e.ask.source
    -- no two collected replies have one place
    pub got_once : (m j k : ℕ) (e f : Entry) → slice_get (hands c.masters m).got j ≡ Some e
        → slice_get (hands c.masters m).got k ≡ Some f
        → e.port ≡ f.port → e.index ≡ f.index → j ≡ k
    -- nor have a collected reply and an answered slot
    pub apart : (m p i j : ℕ) (r : SlotRecord) (e : Entry) → phase c i ≡ Answered m p → IsHome c.homes i r
        → slice_get (hands c.masters m).got j ≡ Some e → e.port ≡ p → e.index ≢ r.index

  -- ---- the rule

  -- how many there are of each, which is what lets an item be looked up by its number; and whose the sources are
  pub record HasShape : Type 0 where
    pub limits : IsInLimits a.slots a.masters a.ports
    -- no wide source is of two masters
    pub owners : AreLawfulOwners a.owners
    pub phases : length c.phases ≡ a.slots
    pub homes : length c.homes ≡ a.slots
    pub left : length c.left ≡ a.masters
    -- seats are dealt in order, the ports' after the masters'
    pub masters : length c.masters ≤ a.masters
    pub ports : length c.ports ≤ a.ports
    pub dealt : length c.masters < a.masters → length c.ports ≡ 0
    -- no two views are of one master or of one port: each stands at its number
    pub master_views : (m : ℕ) → m < length c.masters
        → ((hands c.masters m).number ≡ m) × ((hands c.masters m).about ≡ a)
        × (length (hands c.masters m).hand ≡ a.slots)
    pub port_views : (p : ℕ) → p < length c.ports → ((desk c.ports p).number ≡ p) × ((desk c.ports p).about ≡ a)

  -- the lists are lawful: what is so of them between any two steps, one fact a line.
  pub record Lawful : Type 0 where
    pub shape : HasShape
    -- a leave word is set just where that master's view has left: else no one could tell from the words who has gone
    pub leaving : (m : ℕ) → slice_index_or c.left m false ≡ (hands c.masters m).left
    -- who has left holds nothing: so if all have left every slot is free
    pub gone : (m i : ℕ) → (hands c.masters m).left ≡ true → held c.masters m i ≡ Nothing
    -- each slot is as its word says: so who steps on a slot knows from the word found what it has before it
    pub slots : (i : ℕ) → i < a.slots → InPhase i (phase c i)
    -- what is in a master's hand names that master: so a slot is in one hand at most, and none that is owned is claimed
    pub hand : (m i : ℕ) → held c.masters m i ≢ Nothing → Names (phase c i) m
    -- what a port serves is serving at that port: so a request is served by one port alone
    pub service : (p i : ℕ) (ask : Request) → served c.ports p i ≡ Some ask → (m : ℕ) × (phase c i ≡ Serving m p)
    -- a port serves a slot once: so an answer ends the service
    pub serves_once : (p : ℕ) → HasDistinctSlots (desk c.ports p).serving
    -- what a master has sent has distinct sources: so a reply is of one request
    pub sources : (m i j p q known other_known : ℕ) (ask other : Request) → held c.masters m i ≡ Sent ask p known
        → held c.masters m j ≡ Sent other q other_known → ask.source ≡ other.source → i ≡ j
    -- and of the master's own: so requests of two masters are never mixed up
    pub block : (m i p known : ℕ) (ask : Request) → held c.masters m i ≡ Sent ask p known → Owns a m ask.source
    -- each place of a list is that of one answered slot or of one collected reply: so no reply is invented, lost or
    -- given twice
    pub places : Places
    -- each list is true of the port's memory: so what is collected from it is the sequential memory's reply
    pub lawful : (p : ℕ) → IsLawfulHistory (reset_of a p) (desk c.ports p).list

-- the table fits: it is the image of lists that are lawful
pub record Fits (a : About) (s : State Berth View) : Type 0 where
  pub parts : Parts
  pub is : s ≡ table_of a parts
  pub lawful : Lawful a parts
