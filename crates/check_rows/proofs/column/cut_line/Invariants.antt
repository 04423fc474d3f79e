-- The parts so far, and those of what is left, are those of the line.
use Rattle.std.proofs.Common.{◌≡◌, ◌++◌, map, length, take}
use Rattle.check_rows.specs.Column.{column_parts}
use Rattle.check_rows.specs.declared.column.TheConstants.{COLUMNS}
use Rattle.check_rows.proofs.column.cut_line.Given as goal

abbrev pub invariant-loop-place : goal.invariant-loop-place
invariant-loop-place l = record {
  size : length l.words ≡ COLUMNS;
  parts : column_parts l.line ≡ map (λ word. word.now) (take l.place l.words) ++ column_parts l.rest;
}
