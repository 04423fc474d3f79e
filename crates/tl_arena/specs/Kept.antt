-- What an arena and its seats keep beside the table and the table's seats. All of it is this project's own.
use Rattle.std.specs.Prelude.{◌≡◌, ℕ, ◌+◌, ◌<◌, ◌≤◌, true, false, List, length, slice_index, count_by, Some}
use Rattle.atomic_table.specs.Seated.{TableId}
use Rattle.tl_types.specs.Request.{Request}
use Rattle.tl_types.specs.declared.limits.TheConstants.{MAX_MASTERS, MAX_PORTS}
use Rattle.tl_slots.specs.declared.word.TheConstants.{MAX_AGENT}
use Rattle.tl_slots.specs.Machine.{IsInLimits}
use Rattle.tl_rule.specs.declared.view.About.{About}
use Rattle.tl_rule.specs.declared.view.View.{View}
use Rattle.tl_rule.specs.Views.{Owns}
use Rattle.tl_rule.specs.Serving.{ask_at}
use Rattle.tl_rule.specs.Moves.{Seat, is_master, is_port, as_master, as_port, IsLawfulDesk}
use Rattle.tl_rule.specs.Carried.{firsts, has, IsTop, is_held, CarriesHand, CarriesServed}
use Rattle.tl_arena.specs.Views.{ArenaId, MasterView, PortView}

-- ---- the arena

-- the arena of this table, which was told this
abbrev pub arena_id : TableId → About → ArenaId
arena_id table about = record { table = table; about = about }

-- the counts are those of the table and of what it was told, and in their limits
pub record IsArenaKept (table : TableId) (about : About) (slots masters ports : ℕ) : Type 0 where
  pub slots_are : about.slots ≡ slots
  pub masters_are : about.masters ≡ masters
  pub ports_are : about.ports ≡ ports
  pub table_slots : table.slots ≡ slots
  pub table_words : table.words ≡ slots + masters
  pub limits : IsInLimits slots masters ports

-- ---- a master's seat

-- what callers see of the seat of a table with this view
abbrev pub master_view : TableId → View → MasterView
master_view table w =
    record {
      arena = arena_id table (as_master w).about;
      number = (as_master w).number;
      hand = (as_master w).hand;
      got = (as_master w).got;
    }

-- the numbers beside a master's seat are those of its view, and the order is that of the slots that it has taken out
pub record IsMasterKept (me : Seat) (order : List ℕ) (capacity number owned collected : ℕ) : Type 0 where
  pub is : is_master me.0 ≡ true
  pub numbered : (as_master me.0).number ≡ number
  pub present : (as_master me.0).left ≡ false
  pub in_range : number < (as_master me.0).about.masters
  pub in_limit : (as_master me.0).about.masters ≤ MAX_MASTERS
  pub wide : length (as_master me.0).hand ≡ (as_master me.0).about.slots
  pub mirror : firsts me.1 ≡ order
  pub carried : CarriesHand (as_master me.0).hand order
  pub room : (as_master me.0).about.slots ≤ capacity
  pub owns : count_by is_held (as_master me.0).hand ≡ owned
  pub has_got : length (as_master me.0).got ≡ collected

-- ---- a port's seat

-- what callers see of a port's seat of a table with this view; the seat is blank if the view is not a port's.
abbrev pub port_view : TableId → View → PortView
port_view table w = record {
  arena = arena_id table (as_port w).about;
  number = (as_port w).number;
  list = (as_port w).list;
  serving = (as_port w).serving;
}

-- the source is of the master's block, and the master fits a word
pub record IsOwner (about : About) (master source : ℕ) : Type 0 where
  pub owns : Owns about master source
  pub small : master ≤ MAX_AGENT

-- the same of a port's seat, with the owner of each request that it serves, by slot
pub record IsPortKept (me : Seat) (order : List ℕ) (capacity : ℕ) (owners : List ℕ) (number served : ℕ) : Type 0 where
  pub is : is_port me.0 ≡ true
  pub numbered : (as_port me.0).number ≡ number
  pub in_limit : (as_port me.0).about.ports ≤ MAX_PORTS
  pub law : IsLawfulDesk (as_port me.0)
  pub mirror : firsts me.1 ≡ order
  pub carried : CarriesServed (as_port me.0).serving order
  pub room : (as_port me.0).about.slots ≤ capacity
  pub listed : length (as_port me.0).list ≡ served
  pub wide : length owners ≡ (as_port me.0).about.slots
  pub owned : (i : ℕ) (ask : Request) → ask_at (as_port me.0).serving i ≡ Some ask
      → IsOwner (as_port me.0).about (slice_index owners i) ask.source

-- ---- a slot that is to be given back

-- n is m with its slots turned, and the slot i first; the orders of both are beside them
pub record IsBrought (m n : Seat) (before after : List ℕ) (i : ℕ) : Type 0 where
  pub view : n.0 ≡ m.0
  pub mirror : firsts n.1 ≡ after
  pub top : IsTop n i
  pub members : (j : ℕ) → has after j ≡ has before j
  pub many : length after ≡ length before
