-- The flags so far are those of as many ports.
use Rattle.std.proofs.Common.{◌≡◌}
use Rattle.check_description.specs.Reach.{flags_of}
use Rattle.check_description.proofs.reach.flags_of.Given as goal

abbrev pub invariant-loop-port : goal.invariant-loop-port
invariant-loop-port l = l.flags.items ≡ flags_of l.port l.numbers
