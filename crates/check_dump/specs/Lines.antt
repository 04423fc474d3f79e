-- The rows of a dump, one after the other: each stands on one line of the text that `tlvcd` writes of the dump. This project's own.
use Rattle.std.specs.Prelude.{◌≡◌, ◌≢◌, ℕ, ◌+◌, ◌<◌, ◌≤◌, List, [], ◌∷◌, ◌++◌, drop, get_or, length, slice_index, Option, None, Some, option_map, Result, Ok, Err}
use Rattle.check_rows.specs.Column.{column_parts}
use Rattle.check_rows.specs.Row.{SeenRow}
use Rattle.check_samples.specs.Due.{due_text}
use Rattle.check_samples.specs.EdgeFault.{edge_fault_view}
use Rattle.check_samples.specs.Left.{End, RowsLeft}
use Rattle.check_samples.specs.Left.End.{BeforeBeat, BeforeLine, Whole, WithoutEdges}
use Rattle.check_text.specs.Buses.{LinkBuses, row_on}
use Rattle.check_samples.specs.declared.rows.Progress.{Progress}
use Rattle.check_samples.specs.declared.rows.Progress.TheVariants as progress
use Rattle.check_samples.specs.declared.rows.RowsFault.{RowsFault}
use Rattle.check_samples.specs.declared.rows.RowsFault.TheVariants as rows_fault
use Rattle.check_dump.specs.declared.kept.DumpLines.{DumpLines}
use Rattle.check_dump.specs.declared.kept.RowsEnd.{RowsEnd}
use Rattle.check_dump.specs.declared.kept.RowsEnd.TheVariants as ends
use Rattle.check_dump.specs.declared.lines.LineFault.{LineFault}
use Rattle.check_dump.specs.declared.lines.LineFault.TheVariants as line_fault

-- no byte ends a line
abbrev pub HasNoLineEnd : List ℕ → Type 0
HasNoLineEnd text = (place : ℕ) → place < length text → slice_index text place ≢ 10

-- a text begins with this line, and this is left after its end
pub record BeginsWithLine (line rest text : List ℕ) : Type 0 where
  pub is : text ≡ line ++ (10 ∷ rest)
  pub one : HasNoLineEnd line

-- the line of this number is this row
abbrev pub SpellsRow : LinkBuses → ℕ → List ℕ → SeenRow → Type 0
SpellsRow buses number line row = row_on buses number (column_parts line) ≡ Ok row

-- a text is these rows, one to a line, of which the first has this number
abbrev pub AreRowLines : LinkBuses → ℕ → List SeenRow → List ℕ → Type 0
AreRowLines buses number [] text = text ≡ []
AreRowLines buses number (row ∷ rows) text =
    (line : List ℕ) × (rest : List ℕ) × BeginsWithLine line rest text × SpellsRow buses number line row
    × AreRowLines buses (number + 1) rows rest

-- ---- what a reader of lines answers

-- how the rows of a dump end
abbrev pub end_of : RowsEnd → End
end_of ends.Whole = Whole
end_of (ends.WithoutEdges why) = WithoutEdges (edge_fault_view why)
end_of (ends.BeforeBeat unknown) = BeforeBeat unknown
end_of (ends.BeforeLine line mistake) = BeforeLine line mistake

-- how they end, if no more are to come after this answer
abbrev pub ended_by : Result Progress RowsFault → Result (Option RowsEnd) LineFault
ended_by (Ok progress.More) = Ok None
ended_by (Ok progress.Over) = Ok (Some ends.Whole)
ended_by (Err (rows_fault.Edges why)) = Ok (Some (ends.WithoutEdges why))
ended_by (Err (rows_fault.Unknown unknown)) = Ok (Some (ends.BeforeBeat unknown))
ended_by (Err (rows_fault.Dump line mistake)) = Ok (Some (ends.BeforeLine line mistake))
ended_by (Err rows_fault.Read) = Err line_fault.Read
ended_by (Err rows_fault.Memory) = Err line_fault.Memory

-- the line of the row that was read last; empty if there is none.
abbrev pub line_at_hand : {D : Type 0} → DumpLines D → List ℕ
line_at_hand lines = get_or lines.due lines.at []

-- the text of the rows at hand after the one that was read last.
abbrev pub rest_at_hand : {D : Type 0} → DumpLines D → List ℕ
rest_at_hand lines = due_text (drop lines.next lines.due)

-- the place of the next row is that of one at hand, or the one behind them
abbrev pub IsInside : {D : Type 0} → DumpLines D → Type 0
IsInside lines = lines.next ≤ length lines.due

-- the rows that are left to come, where the dump tells them: the text of those at hand, and what is to come of the dump, unless
-- it has ended
abbrev pub coming_by : List ℕ → Option RowsEnd → Option RowsLeft → Option RowsLeft
coming_by text None rows = option_map (λ (left : RowsLeft). record left { text = text ++ left.text }) rows
coming_by text (Some end) rows = Some (record { text = text; end = end_of end })

-- the text of the rows that are left to come, and how they end; none if the dump does not tell its bytes.
abbrev pub coming : {D : Type 0} → DumpLines D → Option RowsLeft
coming lines = coming_by (rest_at_hand lines) lines.ended lines.rows

-- the next line is this one
abbrev pub TakesLine : List ℕ → RowsLeft → RowsLeft → Type 0
TakesLine line from to = BeginsWithLine line to.text from.text × (to.end ≡ from.end)

-- no line is left, and the rows end so
pub record HasNoLine (end : Option RowsEnd) (from : RowsLeft) : Type 0 where
  pub is : from.text ≡ []
  pub ends : option_map end_of end ≡ Some from.end
