-- What was covered is kept at a reset.
use Rattle.std.proofs.Common.{Option, IfSome, subst}
use Rattle.check_coverage.specs.View.{Covers}
use Rattle.check_coverage.specs.declared.coverage.Coverage.{Coverage}
use Rattle.check_review.proofs.tally.Tally.reset_coverage.Goals as goal

pub returns-in-Some-clause-covers : goal.returns-in-Some-clause-covers
returns-in-Some-clause-covers c plan later earlier rows mirrors covers =
    let C : Option Coverage → Type 0 = λ o. IfSome o (Covers plan earlier rows) in
    c.reset.ensures plan later earlier rows mirrors (subst C c.in-Some.is covers)
