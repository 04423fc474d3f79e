use Rattle.check_description.proofs.Stores.{keeps_its_store}
use Rattle.check_description.proofs.laws.a_plain_port_keeps_its_store.Goals as goal

pub returns : goal.returns
returns c = keeps_its_store
