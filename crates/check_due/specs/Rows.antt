-- Rows of a capture, by the beats that they are of. This project's own.
use Rattle.std.specs.Prelude.{◌≡◌, ℕ, Bool, false, true, List, [], ◌∷◌, codes, Ok}
use Rattle.std.specs.Fmt.{decimal, digits}
use Rattle.check_beats.specs.declared.bus.Bus.{Bus}
use Rattle.check_watch.specs.Plan.{seen_at}
use Rattle.check_watch.specs.declared.beat.Link.{Link}
use Rattle.check_rows.specs.Column.{column_parts}
use Rattle.check_rows.specs.Row.{SeenBeat, SeenRow, nothing_seen, row_of}
use Rattle.check_samples.specs.Due.{due_line}
use Rattle.check_samples.specs.Row.{hex_text, link_text, mark_text}
use Rattle.check_samples.specs.declared.due.DueRow.{DueRow}
use Rattle.check_samples.specs.declared.row.AskCells.{AskCells}
use Rattle.check_samples.specs.declared.row.ReplyCells.{ReplyCells}

-- what stands between the commas of a row of channel A, after its time.
abbrev pub ask_words : Link → AskCells → List ℕ → List ℕ → List (List ℕ)
ask_words link cells mask lanes =
    link_text link ∷ (65 ∷ []) ∷ decimal cells.opcode ∷ decimal cells.param ∷ decimal cells.size ∷ decimal cells.source
    ∷ digits 16 false cells.address ∷ hex_text mask ∷ hex_text lanes ∷ [] ∷ mark_text cells.corrupt ∷ []

-- what stands between the commas of a row of channel D, after its time.
abbrev pub reply_words : Link → ReplyCells → List ℕ → List (List ℕ)
reply_words link cells lanes =
    link_text link ∷ (68 ∷ []) ∷ decimal cells.opcode ∷ mark_text cells.param ∷ decimal cells.size ∷ decimal cells.source
    ∷ [] ∷ [] ∷ hex_text lanes ∷ decimal cells.denied ∷ mark_text cells.corrupt ∷ []

-- what stands between the commas of a row of a reset, after its time.
abbrev pub reset_words : List (List ℕ)
reset_words = codes "reset" ∷ [] ∷ [] ∷ [] ∷ [] ∷ [] ∷ [] ∷ [] ∷ [] ∷ [] ∷ [] ∷ []

-- the row of a beat at a link, on this line
abbrev pub row_on_line : ℕ → ℕ → Link → SeenBeat → SeenRow
row_on_line line time link seen = record {
  line = line;
  time = time;
  is_reset = false;
  sighting = seen_at link seen.beat seen.lanes.known seen.lanes.bytes;
}

-- the row of a reset of the whole system, on this line
abbrev pub reset_on_line : ℕ → ℕ → SeenRow
reset_on_line line time = record { line = line; time = time; is_reset = true; sighting = nothing_seen }

-- a row that is due is this row of a capture, by what stands between the commas of its line
abbrev pub IsDueRow : Bool → List Bus → List Bus → ℕ → DueRow → SeenRow → Type 0
IsDueRow resets masters ports line due row = row_of resets masters ports line (column_parts (due_line due)) ≡ Ok row
