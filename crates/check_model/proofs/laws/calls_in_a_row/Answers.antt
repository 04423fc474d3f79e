use Rattle.check_model.proofs.Rows.{moved}
use Rattle.check_model.proofs.laws.calls_in_a_row.Goals as goal

pub returns : goal.returns
returns c = moved
