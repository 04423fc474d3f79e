-- The devices so far, and those of the rest, are the devices of all.
use Rattle.std.proofs.Common.{◌≡◌, ◌≤◌, All, drop, length, map}
use Rattle.toml.specs.View.{table_view}
use Rattle.tl_ops.specs.declared.bank.TheConstants.{MAX_LENGTH}
use Rattle.tl_script.specs.Port.{port_of}
use Rattle.tl_text.specs.Reading.{each, with_front}
use Rattle.tl_script.specs.System.{store_of}
use Rattle.tl_script.proofs.ports.read_each_port.Given as goal

abbrev pub invariant-loop-table : goal.invariant-loop-table
invariant-loop-table l = record {
  read :
      with_front (map store_of l.devices.items)
      (each port_of (map (λ table. table_view table.now) (drop l.table-index l.tables)))
      ≡ each port_of (map (λ table. table_view table.now) l.tables);
  in_limit : All (λ store. length store.bytes ≤ MAX_LENGTH) (map store_of l.devices.items);
}
