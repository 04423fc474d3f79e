use Rattle.std.proofs.Common.{sym}
use Rattle.check_flight.proofs.Same.{below_both, below_own}
use Rattle.check_flight.proofs.crossing.are_same_bytes.Goals as goal

pub returns-then-is_below : goal.returns-then-is_below
returns-then-is_below c =
    let given = c.args.given.now in
    let captured = c.args.captured.now in (
      λ below. below_both given captured (c.is_below.ensures.0 c.if-is_below.true)
          (c.is_below-then-is_below.ensures.0 below),
      λ same. c.is_below-then-is_below.ensures.1 (below_own captured given (sym same)),
    )
