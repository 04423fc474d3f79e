use Rattle.check_description.proofs.Wholes.{error_port_is_whole}
use Rattle.check_description.proofs.laws.the_error_port_is_whole.Goals as goal

pub returns : goal.returns
returns c = error_port_is_whole
