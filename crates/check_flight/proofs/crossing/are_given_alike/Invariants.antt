use Rattle.check_flight.proofs.Given.{AreAlikeTo}
use Rattle.check_flight.proofs.crossing.are_given_alike.Given as goal

-- the bytes so far are given alike
abbrev pub invariant-loop-place : goal.invariant-loop-place
invariant-loop-place l = AreAlikeTo l.sent l.seen l.place
