-- A channel and a comma.
use Rattle.check_rows.proofs.FrontLemmas.{one-channel-a, one-channel-d}
use Rattle.check_rows.proofs.front.take_channel.Goals as goal

pub returns-in-Some : goal.returns-in-Some
returns-in-Some c = rw c.in-Some.ensures (one-channel-a c.in-Some.rest.now)

pub returns-in-Some-take_byte : goal.returns-in-Some-take_byte
returns-in-Some-take_byte c = rw c.in-Some-take_byte.ensures (one-channel-d c.in-Some-take_byte.rest.now)
