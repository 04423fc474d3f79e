use Rattle.check_scripts.proofs.Replies.{reply_spelled_alike}
use Rattle.check_scripts.proofs.Requests.{ask_spelled_alike}
use Rattle.check_scripts.proofs.beats.messages_are_the_same.Goals as goal

pub returns-clause-requests : goal.returns-clause-requests
returns-clause-requests c = ask_spelled_alike

pub returns-clause-replies : goal.returns-clause-replies
returns-clause-replies c = reply_spelled_alike
