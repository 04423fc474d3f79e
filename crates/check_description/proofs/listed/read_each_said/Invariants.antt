-- What was read so far, and what is left, is that of all tables.
use Rattle.std.proofs.Common.{◌≡◌, drop, map}
use Rattle.toml.specs.View.{table_view}
use Rattle.tl_text.specs.Reading.{each, with_front}
use Rattle.check_description.specs.Listed.{said_in_table, said_view}
use Rattle.check_description.proofs.listed.read_each_said.Given as goal

abbrev pub invariant-loop-table : goal.invariant-loop-table
invariant-loop-table l =
    with_front (map said_view l.said.items)
    (each said_in_table (map (λ table. table_view table.now) (drop l.table-index l.tables)))
    ≡ each said_in_table (map (λ table. table_view table.now) l.tables)
