use Rattle.check_contests.proofs.AcceptedSlave.{accepting_keeps}
use Rattle.check_contests.proofs.Serving.{serving_keeps}
use Rattle.check_contests.proofs.Answering.{answering_keeps}
use Rattle.check_contests.proofs.laws.each_moment_keeps.Goals as goal

pub returns : goal.returns
returns c = record { accepting = accepting_keeps; taking_effect = serving_keeps; answering = answering_keeps }
