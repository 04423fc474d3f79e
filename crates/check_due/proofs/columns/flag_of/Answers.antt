-- Each flag is one digit.
use Rattle.std.proofs.Common.{arith}
use Rattle.check_due.proofs.Numbers.{flag-read}
use Rattle.check_due.proofs.columns.flag_of.Goals as goal

pub returns-in-0 : goal.returns-in-0
returns-in-0 c = rw c.in-0.is (flag-read 0 (omega arith))

pub returns-in-1 : goal.returns-in-1
returns-in-1 c = rw c.in-1.is (flag-read 1 (omega arith))
