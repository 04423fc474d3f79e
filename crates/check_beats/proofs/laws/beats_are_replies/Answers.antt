use Rattle.check_beats.proofs.Ending.{reply_can_end, reply_cut_up}
use Rattle.check_beats.proofs.ReplySpelled.{replies_spelled}
use Rattle.check_beats.proofs.laws.beats_are_replies.Goals as goal

pub returns-clause-cut : goal.returns-clause-cut
returns-clause-cut c = reply_cut_up

pub returns-clause-spelled : goal.returns-clause-spelled
returns-clause-spelled c = replies_spelled

pub returns-clause-end : goal.returns-clause-end
returns-clause-end c = reply_can_end
