-- The row that was taken is the next one.
use Rattle.std.proofs.Common.{arith}
use Rattle.check_dump.specs.Lines.{coming}
use Rattle.check_dump.proofs.LineLemmas.{both_then, takes_line}
use Rattle.check_dump.proofs.kept.DumpLines.read.Goals as goal

pub returns-then-self-count-clause-line : goal.returns-then-self-count-clause-line
returns-then-self-count-clause-line g c = λ _.
    let lines = c.loop.self in
    both_then (coming c.args.self.now) (coming lines) _ _ c.loop.invariant.same
    (takes_line lines.due lines.next lines.ended lines.rows (omega arith) c.count.ensures.plain)
