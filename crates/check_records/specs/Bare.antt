-- A record that stands on a line without quotes. This project's own.
use Rattle.std.specs.Prelude.{◌≡◌, ℕ, ◌<◌, ◌≤◌, ◌==◌, ◌||◌, Bool, true, false, List, length, get_or}
use Rattle.std.specs.List.{slice_split}
use Rattle.check_records.specs.Source.{bare_of}
use Rattle.check_records.specs.Text.{RecordRow, is_line_end}
use Rattle.check_records.specs.Reading.{row_of_draft}
use Rattle.check_records.specs.declared.draft.Draft.{Draft}
use Rattle.check_records.specs.declared.draft.TheConstants.{MAX_ROW}
use Rattle.check_records.specs.declared.source.Source.{Source}

-- the parts of a line between its commas
abbrev pub comma_parts : List ℕ → List (List ℕ)
comma_parts line = slice_split (λ byte. byte == 44) line

-- a byte that ends a line, or a quote
abbrev pub stops_bare : ℕ → Bool
stops_bare byte = is_line_end byte || (byte == 34)

-- a text begins with a line of so many bytes, which are no more than a record may have, and none of them is a quote
pub record IsBareLine (text : List ℕ) (size : ℕ) : Type 0 where
  pub inside : size < length text
  pub short : size ≤ MAX_ROW
  pub bare : (place : ℕ) → place < size → stops_bare (get_or text place 0) ≡ false
  pub ends : is_line_end (get_or text size 0) ≡ true

-- a record that was read: its fields, or a line whose parts they are
abbrev pub record_row_in : {R : Type 0} → Source R → Draft → Bool → RecordRow
record_row_in source draft false = row_of_draft draft
record_row_in source draft true = record { line = draft.line; fields = comma_parts (bare_of source) }
