-- The columns so far are those of the header.
use Rattle.std.proofs.Common.{◌≡◌, ℕ, ◌<◌, [], Some, get_or}
use Rattle.csv.specs.Records.{field_at, fields_of}
use Rattle.check_rows.specs.Column.{header}
use Rattle.check_text.proofs.header.is_header.Given as goal

abbrev pub invariant-loop-place : goal.invariant-loop-place
invariant-loop-place l = (j : ℕ) → j < l.place → field_at (fields_of l.columns) j ≡ Some (get_or header j [])
