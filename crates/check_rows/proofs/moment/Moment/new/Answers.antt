-- No rows are a moment.
use Rattle.check_rows.proofs.MomentLemmas.{none-kept}
use Rattle.check_rows.proofs.moment.Moment.new.Goals as goal

pub invariant_of-result : goal.invariant_of-result
invariant_of-result c = rw (c.new.ensures, c.new-2.ensures) (none-kept 0)
