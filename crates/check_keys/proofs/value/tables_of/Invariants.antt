-- The tables so far, and those of the rest, are the tables of all.
use Rattle.std.proofs.Common.{◌≡◌, drop, map}
use Rattle.toml.specs.View.{view, table_view}
use Rattle.tl_text.specs.Reading.{each, with_front}
use Rattle.check_keys.specs.Value.{table_of}
use Rattle.check_keys.proofs.value.tables_of.Given as goal

abbrev pub invariant-loop-value : goal.invariant-loop-value
invariant-loop-value l =
    with_front (map (λ table. table_view table.now) l.tables.items)
    (each (table_of l.key) (map view (drop l.value-index l.values)))
    ≡ each (table_of l.key) (map view l.values)
