use Rattle.std.proofs.Common.{refl}
use Rattle.check_flight.proofs.laws.the_last_beat_ends.Goals as goal

pub returns-clause-ask : goal.returns-clause-ask
returns-clause-ask c = λ under beat lanes ends. rw ends refl

pub returns-clause-reply : goal.returns-clause-reply
returns-clause-reply c = λ under beat known lanes ends. rw ends refl
