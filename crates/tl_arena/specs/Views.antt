-- What the arena, its seats and the values of a turn show to their callers. All of it is this project's own.
use Rattle.std.specs.Prelude.{◌≡◌, ℕ, ◌++◌, List, [], ◌∷◌, length, slice_get, slice_index_or, slice_set, replicate, count_by, Some, false}
use Rattle.atomic_table.specs.Seated.{TableId}
use Rattle.tl_types.specs.Request.{Request}
use Rattle.tl_types.specs.Response.{Response}
use Rattle.tl_types.specs.declared.trace.Entry.{Entry}
use Rattle.tl_ops.specs.Store.{Store}
use Rattle.tl_map.specs.declared.owners.Owner.{Owner}
use Rattle.tl_rule.specs.declared.view.About.{About}
use Rattle.tl_rule.specs.declared.view.Held.{Held}
use Rattle.tl_rule.specs.declared.view.Held.TheVariants.{Nothing, Taken}
use Rattle.tl_rule.specs.declared.view.Hands.{Hands}
use Rattle.tl_rule.specs.declared.view.Desk.{Desk}
use Rattle.tl_rule.specs.Carried.{is_held}
use Rattle.tl_rule.specs.Serving.{drop_slot}

-- ---- what is shown

-- one arena: its table, and all of it that never changes
pub record ArenaId : Type 0 where
  pub table : TableId
  pub about : About

-- a master's seat: an item for each slot, and the replies in the order collected
pub record MasterView : Type 0 where
  pub arena : ArenaId
  pub number : ℕ
  pub hand : List Held
  pub got : List Entry

-- a port's seat: its requests with their replies in the order served, and what it has accepted and not answered, in the
-- order accepted
pub record PortView : Type 0 where
  pub arena : ArenaId
  pub number : ℕ
  pub list : List (Request × Response)
  pub serving : List (ℕ × Request)

-- a request that was posted: `known` replies had been collected then
pub record TicketView : Type 0 where
  pub slot : ℕ
  pub ask : Request
  pub port : ℕ
  pub known : ℕ

-- a reply that was collected, with its place in the port's list
pub record ServedView : Type 0 where
  pub slot : ℕ
  pub ask : Request
  pub port : ℕ
  pub index : ℕ
  pub reply : Response

-- ---- the arena

-- the counts, the owners of the sources and the resets of the ports
abbrev pub about_of : ℕ → List Owner → List Store → About
about_of slots owners resets =
    record { slots = slots; masters = length owners; ports = length resets; owners = owners; resets = resets }

-- ---- a master's seat

-- the same as the rule sees it
abbrev pub hands_of : MasterView → Hands
hands_of v = record { number = v.number; about = v.arena.about; hand = v.hand; got = v.got; left = false }

-- what the hand has of the slot
abbrev pub hand_at : MasterView → ℕ → Held
hand_at v i = slice_index_or v.hand i Nothing

-- how many slots it owns
abbrev pub owned_of : MasterView → ℕ
owned_of v = count_by is_held v.hand

-- the hand has x of the slot, and all else is as it was
abbrev pub with_held : MasterView → ℕ → Held → MasterView
with_held v i x = record { arena = v.arena; number = v.number; hand = slice_set v.hand i x; got = v.got }

-- the slot is taken, the entry is the last that was collected, and all else is as it was
abbrev pub with_collected : MasterView → ℕ → Entry → MasterView
with_collected v i e =
    record { arena = v.arena; number = v.number; hand = slice_set v.hand i (Taken e.port); got = v.got ++ e ∷ [] }

-- the entry of a collected reply in the list of what the master has collected.
abbrev pub entry_of : ServedView → Entry
entry_of s = record { ask = s.ask; reply = s.reply; port = s.port; index = s.index }

-- the view of a new seat of master m: it owns no slot, and has collected nothing.
abbrev pub new_master : ArenaId → ℕ → MasterView
new_master a m = record { arena = a; number = m; hand = replicate a.about.slots Nothing; got = [] }

-- the seats of n masters in rising order of number, with empty views
pub record AreNewMasters (a : ArenaId) (n : ℕ) (seats : List MasterView) : Type 0 where
  pub many : length seats ≡ n
  pub each : (m : ℕ) (v : MasterView) → slice_get seats m ≡ Some v → v ≡ new_master a m

-- ---- a port's seat

-- the same as the rule sees it
abbrev pub desk_of : PortView → Desk
desk_of u = record { number = u.number; about = u.arena.about; list = u.list; serving = u.serving }

-- the slot with its request is the last that was accepted, and all else is as it was
abbrev pub with_accepted : PortView → ℕ × Request → PortView
with_accepted u f = record { arena = u.arena; number = u.number; list = u.list; serving = u.serving ++ f ∷ [] }

-- the slot is served no longer, its request and reply are the last of the list, and all else is as it was
abbrev pub with_answered : PortView → ℕ × Request → Response → PortView
with_answered u f reply =
    record { arena = u.arena; number = u.number; list = u.list ++ (f.1, reply) ∷ []; serving = drop_slot f.0 u.serving }

-- the view of a new seat of port p: it has served nothing, and has accepted nothing.
abbrev pub new_port : ArenaId → ℕ → PortView
new_port a p = record { arena = a; number = p; list = []; serving = [] }

-- the seats of n ports in rising order of number, with empty views
pub record AreNewPorts (a : ArenaId) (n : ℕ) (seats : List PortView) : Type 0 where
  pub many : length seats ≡ n
  pub each : (p : ℕ) (u : PortView) → slice_get seats p ≡ Some u → u ≡ new_port a p
