use Rattle.std.proofs.Common.{arith}
use Rattle.check_contests.proofs.Near.{near_before}
use Rattle.check_contests.proofs.writes.is_near.Goals as goal

pub returns-then-address-start-clause-near : goal.returns-then-address-start-clause-near
returns-then-address-start-clause-near c =
    near_before c.args.ask.now c.args.address c.args.count c.address-start.result c.address-start.ensures (omega arith)
