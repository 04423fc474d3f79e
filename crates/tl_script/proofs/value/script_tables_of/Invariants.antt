-- The tables so far, and those of the rest, are the tables of all.
use Rattle.std.proofs.Common.{◌≡◌, drop, map}
use Rattle.toml.specs.View.{view, table_view}
use Rattle.tl_text.specs.Reading.{each, with_front}
use Rattle.tl_script.specs.Value.{script_table_of}
use Rattle.tl_script.proofs.value.script_tables_of.Given as goal

abbrev pub invariant-loop-value : goal.invariant-loop-value
invariant-loop-value l =
    with_front (map (λ table. table_view table.now) l.tables.items)
    (each (script_table_of l.key) (map view (drop l.value-index l.values)))
    ≡ each (script_table_of l.key) (map view l.values)
