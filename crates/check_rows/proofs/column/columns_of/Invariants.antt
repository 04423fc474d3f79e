-- The columns so far are those of the record.
use Rattle.std.proofs.Common.{◌≡◌, map, length, take}
use Rattle.csv.specs.Records.{fields_of}
use Rattle.check_rows.specs.declared.column.TheConstants.{COLUMNS}
use Rattle.check_rows.proofs.column.columns_of.Given as goal

abbrev pub invariant-loop-place : goal.invariant-loop-place
invariant-loop-place l = record {
  size : length l.words ≡ COLUMNS;
  words : map (λ word. word.now) (take l.place l.words) ≡ take l.place (fields_of l.found);
}
