use Rattle.check_scripts.proofs.Requests.{bus_alike, mask_alike}
use Rattle.check_scripts.proofs.beats.bus_is_that_of_eight.Goals as goal

pub returns-clause-bus : goal.returns-clause-bus
returns-clause-bus c = bus_alike

pub returns-clause-mask : goal.returns-clause-mask
returns-clause-mask c = mask_alike
