use Rattle.std.proofs.Common.{arith}
use Rattle.check_program_tests.proofs.Ports.{lawful_ports}
use Rattle.check_program_tests.proofs.tests.parts.map.are_ranges.Goals as goal

pub returns-then-ports-le-MAX_JUDGED_PORTS : goal.returns-then-ports-le-MAX_JUDGED_PORTS
returns-then-ports-le-MAX_JUDGED_PORTS c = λ yes.
    lawful_ports c.args.ports.now c.if-ports-le-MAX_JUDGED_PORTS.true (c.are_ports.ensures.0 yes)
