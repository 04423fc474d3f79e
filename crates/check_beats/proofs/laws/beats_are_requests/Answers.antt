use Rattle.check_beats.proofs.Ending.{ask_can_end}
use Rattle.check_beats.proofs.Spelled.{cut_up, spelled}
use Rattle.check_beats.proofs.laws.beats_are_requests.Goals as goal

pub returns-clause-cut : goal.returns-clause-cut
returns-clause-cut c = cut_up

pub returns-clause-spelled : goal.returns-clause-spelled
returns-clause-spelled c = spelled

pub returns-clause-end : goal.returns-clause-end
returns-clause-end c = ask_can_end
