use Rattle.check_text_laws.proofs.Passing.{nothing_passed}
use Rattle.check_text_laws.proofs.counts.any_let_nothing_pass.Goals as goal

pub returns : goal.returns
returns c = nothing_passed
