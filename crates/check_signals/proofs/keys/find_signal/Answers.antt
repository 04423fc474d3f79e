-- What the map of the table finds at the key.
use Rattle.toml.proofs.Views.{table_get}
use Rattle.check_signals.proofs.keys.find_signal.Goals as goal

pub returns : goal.returns
returns c = rw (← c.name.ensures)
    (table_get c.get.result c.name.result.now c.args.table.now.entries c.get.ensures.value)
