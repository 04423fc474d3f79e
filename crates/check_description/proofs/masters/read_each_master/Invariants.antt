-- The masters so far, and those of the rest, are the masters of all.
use Rattle.std.proofs.Common.{◌≡◌, drop, map}
use Rattle.toml.specs.View.{table_view}
use Rattle.check_description.specs.Port.{names_of_ports, port_view}
use Rattle.check_description.specs.Master.{master_of, master_view}
use Rattle.tl_text.specs.Reading.{each, with_front}
use Rattle.check_description.proofs.masters.read_each_master.Given as goal

abbrev pub invariant-loop-table : goal.invariant-loop-table
invariant-loop-table l =
    with_front (map master_view l.masters.items)
    (each (master_of l.bus (names_of_ports (map port_view l.ports)) l.placed) (map (λ table. table_view table.now) (drop l.table-index l.tables)))
    ≡ each (master_of l.bus (names_of_ports (map port_view l.ports)) l.placed) (map (λ table. table_view table.now) l.tables)
