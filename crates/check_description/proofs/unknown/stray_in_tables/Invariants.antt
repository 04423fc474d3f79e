-- The first unknown key of the tables that are left is that of all.
use Rattle.std.proofs.Common.{◌≡◌, drop, map}
use Rattle.toml.specs.View.{view}
use Rattle.check_description.specs.Unknown.{stray_in_tables}
use Rattle.check_description.proofs.unknown.stray_in_tables.Given as goal

abbrev pub invariant-loop-item : goal.invariant-loop-item
invariant-loop-item l = stray_in_tables (map view (drop l.item-index l.values)) ≡ stray_in_tables (map view l.values)
