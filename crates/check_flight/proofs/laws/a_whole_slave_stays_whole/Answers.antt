use Rattle.check_flight.proofs.Known.{stays_whole}
use Rattle.check_flight.proofs.laws.a_whole_slave_stays_whole.Goals as goal

pub returns : goal.returns
returns c = stays_whole
