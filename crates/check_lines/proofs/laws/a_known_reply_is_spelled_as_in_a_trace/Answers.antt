use Rattle.check_lines.proofs.Spelled.{replies_agree}
use Rattle.check_lines.proofs.laws.a_known_reply_is_spelled_as_in_a_trace.Goals as goal

pub returns : goal.returns
returns c = replies_agree
