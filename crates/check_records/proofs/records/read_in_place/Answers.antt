-- What holds after ends of lines holds before them.
use Rattle.std.proofs.Common.{◌≡◌, Ok, ap}
use Rattle.check_records.specs.Source.{left}
use Rattle.check_records.proofs.SourceLemmas.{ends-behind-lines, stops-behind-lines}
use Rattle.check_records.proofs.records.read_in_place.Goals as goal

pub returns-then-not-branch-clause-ok : goal.returns-then-not-branch-clause-ok
returns-then-not-branch-clause-ok g c =
    ends-behind-lines g.R.Read.remaining
    (left g.R.Read.remaining c.args.source.now) c.skip_line_ends.new.self c.in_ok-skip_line_ends.ensures.skips
    (rw c.if-not-branch.true at c.in_ok-skip_line_ends.ensures.first)

pub returns-clause-long : goal.returns-clause-long
returns-clause-long g c = λ line is.
    let same : c.take_bare.new.source ≡ c.skip_line_ends.new.self =
    c.in_ok-take_bare.ensures.no (ap Ok c.if-branch.false) in
    stops-behind-lines (left g.R.Read.remaining c.args.source.now)
    (left g.R.Read.remaining c.skip_line_ends.new.self) line
    c.in_ok-skip_line_ends.ensures.skips (rw same at (c.read_begun.ensures.long line is))
