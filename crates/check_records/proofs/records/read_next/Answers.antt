-- What holds after ends of lines holds before them.
use Rattle.check_records.specs.Source.{left}
use Rattle.check_records.proofs.SourceLemmas.{ends-behind-lines, stops-behind-lines}
use Rattle.check_records.proofs.records.read_next.Goals as goal

pub returns-then-branch-clause-long : goal.returns-then-branch-clause-long
returns-then-branch-clause-long g c = λ line is.
    stops-behind-lines (left g.R.Read.remaining c.args.source.now)
    (left g.R.Read.remaining c.skip_line_ends.new.self) line
    c.in_ok-skip_line_ends.ensures.skips (c.read_begun.ensures.long line is)

pub returns-else-branch-clause-ok : goal.returns-else-branch-clause-ok
returns-else-branch-clause-ok g c =
    ends-behind-lines g.R.Read.remaining
    (left g.R.Read.remaining c.args.source.now) c.skip_line_ends.new.self c.in_ok-skip_line_ends.ensures.skips
    (rw c.if-branch.false at c.in_ok-skip_line_ends.ensures.first)
