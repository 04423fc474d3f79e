-- What a reader of records answers. This project's own.
use Rattle.std.specs.Prelude.{ℕ, Bool, true, false, List, Option, IfSome}
use Rattle.csv.specs.Records.{fields_of}
use Rattle.check_records.specs.Source.{Between, TextLeft}
use Rattle.check_records.specs.Text.{Ends, GivesRecord, IsTooLong, Reads, RecordRow}
use Rattle.check_records.specs.declared.draft.Draft.{Draft}
use Rattle.check_records.specs.declared.fault.RecordFault.{RecordFault}

-- a record that was read
abbrev pub row_of_draft : Draft → RecordRow
row_of_draft draft = record { line = draft.line; fields = fields_of draft.columns }

-- the next record is this row, or else there is none
abbrev pub AnswersRow : TextLeft → TextLeft → RecordRow → Bool → Type 0
AnswersRow old new row true = Between old new (λ from to. GivesRecord from row to)
AnswersRow old new row false = Between old new Ends

-- the next record begins on this line and is too long
abbrev pub StopsLong : TextLeft → ℕ → Type 0
StopsLong old line = IfSome old.text (λ text. IsTooLong (record { line = old.line; text = text }) line)

-- a reader of records: the text that is left, where the reader underneath tells its bytes; the last record that was
-- read, and whether it was left on its line; and the fault that stopped it
pub record Reading : Type 0 where
  pub left : TextLeft
  pub row : RecordRow
  pub is_bare : Bool
  pub fault : Option RecordFault

-- these records were read, one after the other
abbrev pub HaveRead : Reading → List RecordRow → Reading → Type 0
HaveRead old rows new = Between old.left new.left (λ from to. Reads from rows to)
