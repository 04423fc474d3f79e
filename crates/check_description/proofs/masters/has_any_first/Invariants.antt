-- No table so far has the key.
use Rattle.std.proofs.Common.{◌≡◌, drop, map}
use Rattle.std.specs.List.{list_any}
use Rattle.toml.specs.View.{table_view}
use Rattle.check_description.specs.Master.{has_first}
use Rattle.check_description.proofs.masters.has_any_first.Given as goal

abbrev pub invariant-loop-table : goal.invariant-loop-table
invariant-loop-table l =
    list_any has_first (map (λ table. table_view table.now) (drop l.table-index l.tables))
    ≡ list_any has_first (map (λ table. table_view table.now) l.tables)
