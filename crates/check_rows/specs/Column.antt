-- The columns of a capture, and its header. The format is this project's own.
use Rattle.std.specs.Prelude.{ℕ, ◌==◌, ◌&&◌, Bool, List, [], ◌∷◌, ◌++◌, codes, length, map, Option, Some, None}
use Rattle.std.specs.List.{slice_split}
use Rattle.std.specs.Str.{bytes_eq}
use Rattle.csv.specs.Records.{field_at}
use Rattle.check_rows.specs.declared.column.Column.{Column}
use Rattle.check_rows.specs.declared.column.Columns.{Columns}
use Rattle.check_rows.specs.declared.column.Column.TheVariants.{Time, Link, Channel, Opcode, Param, Size, Source, Address, Mask, Data, Denied, Corrupt}

-- every column, from the left
abbrev pub all_columns : List Column
all_columns =
    Time ∷ Link ∷ Channel ∷ Opcode ∷ Param ∷ Size ∷ Source ∷ Address ∷ Mask ∷ Data ∷ Denied ∷ Corrupt ∷ []

-- the place of a column, counted from 0
abbrev pub place_of_column : Column → ℕ
place_of_column Time = 0
place_of_column Link = 1
place_of_column Channel = 2
place_of_column Opcode = 3
place_of_column Param = 4
place_of_column Size = 5
place_of_column Source = 6
place_of_column Address = 7
place_of_column Mask = 8
place_of_column Data = 9
place_of_column Denied = 10
place_of_column Corrupt = 11

-- the name of a column
abbrev pub name_of_column : Column → List ℕ
name_of_column Time = codes "time"
name_of_column Link = codes "link"
name_of_column Channel = codes "channel"
name_of_column Opcode = codes "opcode"
name_of_column Param = codes "param"
name_of_column Size = codes "size"
name_of_column Source = codes "source"
name_of_column Address = codes "address"
name_of_column Mask = codes "mask"
name_of_column Data = codes "data"
name_of_column Denied = codes "denied"
name_of_column Corrupt = codes "corrupt"

-- the header: the names of all columns
abbrev pub header : List (List ℕ)
header = map name_of_column all_columns

-- texts with commas between them
abbrev pub with_commas : List (List ℕ) → List ℕ
with_commas [] = []
with_commas (text ∷ []) = text
with_commas (text ∷ next ∷ more) = text ++ 44 ∷ with_commas (next ∷ more)

-- the line of the header
abbrev pub header_line : List ℕ
header_line = with_commas header ++ 10 ∷ []

-- the text, which is empty if there is none.
abbrev pub or_empty : Option (List ℕ) → List ℕ
or_empty None = []
or_empty (Some word) = word

-- what stands in a column of a row; nothing if the row has fewer
abbrev pub column : List (List ℕ) → Column → List ℕ
column columns which = or_empty (field_at columns (place_of_column which))

-- what stands between the commas of a line
abbrev pub column_parts : List ℕ → List (List ℕ)
column_parts line = slice_split (λ byte. byte == 44) line

-- the record stands where a fault cut a capture short: it is this one word, which its writer puts there
abbrev pub is_cut : List (List ℕ) → Bool
is_cut columns = length columns == 1 && bytes_eq (or_empty (field_at columns 0)) (codes "fault")

-- what stands in the columns of a row
abbrev pub column_words : Columns → List (List ℕ)
column_words columns = map (λ word. word.now) columns.words
