-- The records of a text, each with its line. What the fields of a record are is the rule of crate `csv` at its defaults
-- (`next_record default_config`); its line, and how long it may be, are this project's own.
use Rattle.std.specs.Prelude.{◌≡◌, ℕ, ◌+◌, ◌<◌, ◌≤◌, ◌==◌, ◌||◌, Bool, List, [], ◌∷◌, length, drop, count_by, take_while, Some, None, if◌then◌else◌}
use Rattle.csv.specs.Machine.{is_end, next_record, step}
use Rattle.csv.specs.Reading.{default_config, strip_bom}
use Rattle.csv.specs.declared.parser.State.{State}
use Rattle.csv.specs.declared.parser.State.TheVariants as st
use Rattle.check_records.specs.declared.draft.TheConstants.{MAX_ROW}

-- ---- lines

-- a byte that ends a line
abbrev pub is_line_end : ℕ → Bool
is_line_end byte = (byte == 13) || (byte == 10)

-- how many line feeds a text has
abbrev pub line_feeds : List ℕ → ℕ
line_feeds text = count_by (λ byte. byte == 10) text

-- the ends of lines that stand before the first byte of the next record
abbrev pub ends_before : List ℕ → List ℕ
ends_before text = take_while is_line_end text

-- a text from the first byte of its next record on
abbrev pub from_record : List ℕ → List ℕ
from_record text = drop (length (ends_before text)) text

-- ---- records

-- the bytes of a record from a state on, up to the one that ends it
unfoldable pub bytes_from : State → List ℕ → List ℕ
bytes_from state [] = []
bytes_from state (byte ∷ rest) =
    if is_end (step default_config state byte).1 then []
    else byte ∷ bytes_from (step default_config state byte).0 rest

-- the bytes of the next record: from its first to before the one that ends it, or to the end of the text
abbrev pub record_bytes : List ℕ → List ℕ
record_bytes text = bytes_from st.StartRecord (from_record text)

-- a text that is left to be read, and the line on which it begins
pub record TextPlace : Type 0 where
  pub line : ℕ
  pub text : List ℕ

-- the line on which the next record begins
abbrev pub record_line : TextPlace → ℕ
record_line place = place.line + line_feeds (ends_before place.text)

-- a record, and the line on which it begins
pub record RecordRow : Type 0 where
  pub line : ℕ
  pub fields : List (List ℕ)

-- the next record is this row, it is short enough, and the text after it is left; each line feed stands before a place
-- or after it
pub record GivesRecord (from : TextPlace) (row : RecordRow) (to : TextPlace) : Type 0 where
  pub state : State
  pub reads : next_record default_config st.StartRecord [] [] from.text ≡ Some (row.fields, state, to.text)
  pub begins : row.line ≡ record_line from
  pub short : length (record_bytes from.text) ≤ MAX_ROW
  pub lines : to.line + line_feeds to.text ≡ from.line + line_feeds from.text

-- there is no next record, and the text is used up
pub record Ends (from to : TextPlace) : Type 0 where
  pub none : next_record default_config st.StartRecord [] [] from.text ≡ None
  pub used_up : to.text ≡ []

-- the next record begins on this line and is too long
pub record IsTooLong (place : TextPlace) (line : ℕ) : Type 0 where
  pub begins : line ≡ record_line place
  pub long : MAX_ROW < length (record_bytes place.text)

-- ---- whole texts

-- these are the records from one place to another
unfoldable pub Reads : TextPlace → List RecordRow → TextPlace → Type 0
Reads from [] to = from ≡ to
Reads from (row ∷ rows) to = (behind : TextPlace) × GivesRecord from row behind × Reads behind rows to

-- where a text begins: on line 1, after a byte order mark
abbrev pub text_start : List ℕ → TextPlace
text_start text = record { line = 1; text = strip_bom text }

-- these are all the records of a text
pub record AreRows (text : List ℕ) (rows : List RecordRow) : Type 0 where
  pub last : TextPlace
  pub end : TextPlace
  pub reads : Reads (text_start text) rows last
  pub ends : Ends last end
