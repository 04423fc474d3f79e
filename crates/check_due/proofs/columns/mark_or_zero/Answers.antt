-- The number that there is, or 0.
use Rattle.std.proofs.Common.{arith}
use Rattle.std.specs.Fmt.{decimal}
use Rattle.check_due.proofs.Numbers.{decimal-read, given-read, zero-read}
use Rattle.check_due.proofs.columns.mark_or_zero.Goals as goal

pub returns-in-Some : goal.returns-in-Some
returns-in-Some c =
    rw c.in-Some.is (given-read 1 (decimal c.in-Some.number) c.in-Some.number
    (decimal-read 1 c.in-Some.number (omega (arith, c.if-number-le1.true)) (omega (arith, c.if-number-le1.true))))

pub returns-in-None : goal.returns-in-None
returns-in-None c = rw c.in-None.is (zero-read 1)
