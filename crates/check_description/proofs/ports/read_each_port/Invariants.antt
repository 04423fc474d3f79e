-- The ports so far, and those of the rest, are the ports of all.
use Rattle.std.proofs.Common.{◌≡◌, drop, length, map}
use Rattle.toml.specs.View.{table_view}
use Rattle.tl_text.specs.Reading.{each, with_front}
use Rattle.check_description.specs.Port.{port_of, port_view}
use Rattle.check_description.proofs.ports.read_each_port.Given as goal

abbrev pub invariant-loop-table : goal.invariant-loop-table
invariant-loop-table l = record {
  read : with_front (map port_view l.ports.items)
      (each (port_of l.bus l.resets) (map (λ table. table_view table.now) (drop l.table-index l.tables)))
      ≡ each (port_of l.bus l.resets) (map (λ table. table_view table.now) l.tables);
  counted : length l.ports.items ≡ l.table-index;
}
