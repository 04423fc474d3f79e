use Rattle.check_text_laws.proofs.Uncontested.{nothing_is_contested}
use Rattle.check_text_laws.proofs.counts.no_contest_is_left_out.Goals as goal

pub returns : goal.returns
returns c = nothing_is_contested
