-- The states and actions of this crate's machine, as those of crate `csv`. This project's own.
use Rattle.std.specs.Prelude.{ℕ, Bool, true, false, not, ◌==◌, ◌||◌}
use Rattle.check_records.specs.Text.{is_line_end}
use Rattle.csv.specs.declared.parser.State.{State as CsvState}
use Rattle.csv.specs.declared.parser.State.TheVariants as st
use Rattle.csv.specs.declared.parser.Action.{Action as CsvAction}
use Rattle.csv.specs.declared.parser.Action.TheVariants as act
use Rattle.check_records.specs.declared.machine.State.{State}
use Rattle.check_records.specs.declared.machine.State.TheVariants as own_state
use Rattle.check_records.specs.declared.machine.Action.{Action}
use Rattle.check_records.specs.declared.machine.Action.TheVariants as own_action

-- the state of crate `csv` that a state of this machine is.
abbrev pub state_of : State → CsvState
state_of own_state.StartRecord = st.StartRecord
state_of own_state.StartField = st.StartField
state_of own_state.InField = st.InField
state_of own_state.InQuoted = st.InQuoted
state_of own_state.AfterQuote = st.AfterQuote
state_of own_state.AfterCr = st.AfterCr

-- the action of crate `csv` that an action of this machine is.
abbrev pub action_of : Action → CsvAction
action_of own_action.Skip = act.Skip
action_of own_action.Copy = act.Copy
action_of own_action.EndField = act.EndField
action_of own_action.EndRecord = act.EndRecord

-- the same of a state and an action, as one step gives them.
abbrev pub step_of : State × Action → CsvState × CsvAction
step_of pair = (state_of pair.0, action_of pair.1)

-- a byte that ends the field before it, outside of quotes
abbrev pub ends_field : ℕ → Bool
ends_field byte = (byte == 44) || is_line_end byte

-- whether a byte that is read in this state begins a field, or ends an empty one
abbrev pub begins_field : CsvState → ℕ → Bool
begins_field st.StartRecord byte = not (is_line_end byte)
begins_field st.StartField byte = true
begins_field st.InField byte = false
begins_field st.InQuoted byte = false
begins_field st.AfterQuote byte = false
begins_field st.AfterCr byte = false
begins_field st.InEscape byte = false
begins_field st.InComment byte = false
