-- A number below ten is one digit.
use Rattle.std.proofs.Common.{arith, rules}
use Rattle.std.proofs.lemmas.Fmt.{decimal_digit}
use Rattle.check_samples.proofs.row.push_cell.Goals as goal

pub returns-in_ok-push : goal.returns-in_ok-push
returns-in_ok-push c = rw (decimal_digit c.args.number (omega (arith, c.if-number-lt10.true))) (search rules)
