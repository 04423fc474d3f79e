use Rattle.check_flight.proofs.Known.{stays_accepting, stays_answering}
use Rattle.check_flight.proofs.laws.a_slave_stays_as_it_is.Goals as goal

pub returns-clause-accepting : goal.returns-clause-accepting
returns-clause-accepting c = stays_accepting

pub returns-clause-answering : goal.returns-clause-answering
returns-clause-answering c = stays_answering
