-- The masters so far, and those of the rest, are the masters of all.
use Rattle.std.proofs.Common.{◌≡◌, drop, length, map}
use Rattle.toml.specs.View.{table_view}
use Rattle.tl_script.specs.Master.{master_of, script_master_view}
use Rattle.tl_text.specs.Reading.{each, with_front}
use Rattle.tl_script.proofs.masters.read_each_master.Given as goal

abbrev pub invariant-loop-table : goal.invariant-loop-table
invariant-loop-table l = record {
  read :
      with_front (map script_master_view l.masters.items)
      (each master_of (map (λ table. table_view table.now) (drop l.table-index l.tables)))
      ≡ each master_of (map (λ table. table_view table.now) l.tables);
  counted : length l.masters.items ≡ l.table-index;
}
