use Rattle.check_watch_laws.proofs.Turned.{messages}
use Rattle.check_watch_laws.proofs.laws.beats_are_messages.Goals as goal

pub returns : goal.returns
returns c = messages
