-- The next record is still the same.
use Rattle.check_records.specs.Source.{Between, HasSameNext, left}
use Rattle.check_records.proofs.source.Source.skip_line_ends.Given as goal

abbrev pub invariant-loop : goal.invariant-loop
invariant-loop g l = Between (left g.R.Read.remaining l.fn.self) (left g.R.Read.remaining l.self) HasSameNext
