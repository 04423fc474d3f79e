use Rattle.check_contests.proofs.Runs.{reset_is_below}
use Rattle.check_contests.proofs.laws.reset_is_below.Goals as goal

pub returns : goal.returns
returns c = reset_is_below
