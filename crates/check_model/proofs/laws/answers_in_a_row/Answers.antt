use Rattle.check_model.proofs.Rows.{answered}
use Rattle.check_model.proofs.laws.answers_in_a_row.Goals as goal

pub returns : goal.returns
returns c = answered
