-- What the larger number of the two digits says.
use Rattle.std.proofs.Common.{sym, arith}
use Rattle.check_rows.proofs.Digits.{lane-known, lane-none, lane-unknown}
use Rattle.check_rows.proofs.lanes.read_lane.Goals as goal

pub returns-then-worst-lt-UNKNOWN : goal.returns-then-worst-lt-UNKNOWN
returns-then-worst-lt-UNKNOWN c =
    rw (c.digit_code-high.ensures, c.digit_code-low.ensures)
    (sym (lane-known c.args.high c.args.low (omega arith)))

pub returns-then-worst-eq-UNKNOWN : goal.returns-then-worst-eq-UNKNOWN
returns-then-worst-eq-UNKNOWN c = sym (lane-unknown c.args.high c.args.low (omega arith))

pub returns-else-worst-eq-UNKNOWN : goal.returns-else-worst-eq-UNKNOWN
returns-else-worst-eq-UNKNOWN c = sym (lane-none c.args.high c.args.low (omega arith))
