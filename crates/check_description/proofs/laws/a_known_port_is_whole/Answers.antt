use Rattle.check_description.proofs.Wholes.{known_port_is_whole}
use Rattle.check_description.proofs.laws.a_known_port_is_whole.Goals as goal

pub returns : goal.returns
returns c = known_port_is_whole
