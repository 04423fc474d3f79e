-- What the map of the table finds at the name.
use Rattle.toml.proofs.Views.{table_get}
use Rattle.check_keys.proofs.value.find_member.Goals as goal

pub returns : goal.returns
returns c = table_get c.get.result c.args.name.now c.args.table.now.entries c.get.ensures.value
