-- A flag and a comma.
use Rattle.check_rows.proofs.FrontLemmas.{one-flag-set, one-flag-unset}
use Rattle.check_rows.proofs.front.take_flag.Goals as goal

pub returns-in-Some : goal.returns-in-Some
returns-in-Some c = rw c.in-Some.ensures (one-flag-unset c.in-Some.rest.now)

pub returns-in-Some-take_byte : goal.returns-in-Some-take_byte
returns-in-Some-take_byte c = rw c.in-Some-take_byte.ensures (one-flag-set c.in-Some-take_byte.rest.now)
