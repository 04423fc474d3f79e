-- A number that the column takes.
use Rattle.std.proofs.Common.{arith}
use Rattle.check_due.proofs.Numbers.{decimal-read}
use Rattle.check_due.proofs.columns.field_of.Goals as goal

pub returns : goal.returns
returns c = decimal-read 255 c.args.number (omega arith) (omega arith)
