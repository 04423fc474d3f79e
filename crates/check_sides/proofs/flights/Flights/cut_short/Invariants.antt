use Rattle.check_watch.specs.Reset.{IsLeftPort}
use Rattle.check_sides.proofs.Opening.{OpenIn, handed}
use Rattle.check_sides.proofs.flights.Flights.cut_short.Given as goal

abbrev pub invariant-loop-source : goal.invariant-loop-source
invariant-loop-source l = IsLeftPort (OpenIn (handed l.yielded) l.port l.answering) l.initial.slave l.slave
