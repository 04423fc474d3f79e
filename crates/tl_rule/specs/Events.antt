-- What a step of the table is to the core of slots. All of it is this project's own.
use Rattle.std.specs.Prelude.{◌≡◌, ℕ, slice_set}
use mathlib.Core.Option.{some}
use lib.ListN.{get_elem?}
use Rattle.atomic_table.specs.Table.{State}
use Rattle.tl_slots.specs.declared.event.Event.{Event}
use Rattle.tl_slots.specs.Machine as machine
use Rattle.tl_rule.specs.declared.view.About.{About}
use Rattle.tl_rule.specs.declared.view.View.{View}
use Rattle.tl_rule.specs.Record.{Berth}
use Rattle.tl_rule.specs.Rule.{Parts, Lawful, table_of}

-- the state of the core that the words show: the phase of each slot, and who has left
abbrev pub state_of : About → Parts → machine.State
state_of a c = record { phases = c.phases; left = c.left; ports = a.ports }

-- a table that fits becomes one that fits, by one event: the core accepts it in the state that the words show, and the
-- words then show the state that it leaves. No two phases have the same word, so words show one state alone.
pub record IsOneEvent (a : About) (event : Event) (s t : State Berth View) : Type 0 where
  pub before : Parts
  pub after : Parts
  pub was : s ≡ table_of a before
  pub is : t ≡ table_of a after
  pub lawful_before : Lawful a before
  pub lawful_after : Lawful a after
  pub allowed : machine.IsAllowed (state_of a before) event
  pub leaves : state_of a after ≡ machine.state_after (state_of a before) event

-- A seat's step, from the view v to the view w, is this event. It was made in some table that fits, where the seat
-- had v, and left one that fits, where the seat has w and every other seat has what it had. In the state that the
-- words before show, the core accepts the event: so the word found was that of the phase which the event finds. The
-- words after show the state that the event leaves
pub record IsEventOf (a : About) (event : Event) (v w : View) : Type 0 where
  pub before : State Berth View
  pub after : State Berth View
  pub seat : ℕ
  pub had : get_elem? before.views seat ≡ some v
  pub has : after.views ≡ slice_set before.views seat w
  pub one : IsOneEvent a event before after
