use Rattle.check_contests.proofs.Expected.{captured_through}
use Rattle.check_contests.proofs.Runs.{answer_is_due}
use Rattle.check_contests.proofs.laws.answer_is_due.Goals as goal

pub returns : goal.returns
returns c = record { due = answer_is_due; through = captured_through }
